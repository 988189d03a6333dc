-- After every past a board is sound.
use Rattle.std.proofs.Common.{◌≡◌, ℕ, zero, suc, ◌-◌, true, false, cond, ◌⊎◌, List, [], ◌∷◌, get_or, replicate, sym, refl, ap, ◌∙◌, subst, subst₂, inl, inr, ⊎_elim, arith}
use lib.ListN.{length-replicate}
use Rattle.std.proofs.lemmas.List.{get_or-replicate}
use Rattle.std.proofs.lemmas.Bool.{both_ways, false≢true, not-true}
use Rattle.scales.specs.Meaning.{Meaning, Under, Same}
use Rattle.scales.specs.Laws.{Laws}
use Rattle.model.specs.Least.{On, worth, least}
use Rattle.pasts.specs.Marks.{open_mark, Resting}
use Rattle.model.specs.Formed.{malformed}
use Rattle.pasts.specs.Tables.{Tables, cleared, blank, unopened, statement, grade, mark, count, some_active}
use Rattle.pasts.specs.Calls.{Outcome, refused, done, adds, withdraws, wants, steps, finishes, reads}
use Rattle.pasts.specs.declared.call.Entry.{Entry}
use Rattle.pasts.specs.Pasts.{Past, fresh, later, in_force, WasWanted, now_wanted, before, accepted, changed_by}
use Rattle.pasts.specs.Promises.{StaysSound}
use Rattle.model.specs.declared.rule.Rule.{Rule}
use Rattle.pasts.specs.declared.statement.Mark.TheVariants.{Quiet}
use Rattle.pasts.specs.declared.statement.Event.TheVariants.{Wanted, SonRose}
use Rattle.pasts.specs.declared.call.Call.{Call}
use Rattle.pasts.specs.declared.call.Call.TheVariants.{Add, Withdraw, Want, Step, Finish, Read}
use Rattle.pasts.specs.declared.call.Answer.{Answer}
use Rattle.pasts.specs.declared.call.Answer.TheVariants.{NowWanted}
use Rattle.model.proofs.Rounds.{least_is_least}
use Rattle.pasts.proofs.Active.{none_active}
use Rattle.pasts.proofs.Answered.{read_says}
use Rattle.pasts.proofs.Held.{Held, exact_here}
use Rattle.pasts.proofs.Steps.{step_open, run_rules, run_count, run_open}
use Rattle.pasts.proofs.HeldStep.{step_held, run_held}
use Rattle.pasts.proofs.HeldAdd.{want_held, add_held, sent_count, sent_here, sent_open}
use Rattle.pasts.proofs.HeldWithdraw.{withdraw_held, withdraw_open}
use Rattle.pasts.proofs.Checked.{add_checked, want_checked}
use Rattle.pasts.proofs.Hearing.{wanted_opens}

-- one more than the statement that a call wants, or 0
abbrev wanted_number : {G : Type 0} → Call G → ℕ
wanted_number (Add k r) = 0
wanted_number (Withdraw k) = 0
wanted_number (Want s) = suc s
wanted_number Step = 0
wanted_number Finish = 0
wanted_number (Read s) = 0

abbrev pub WantedIn : {G : Type 0} → ℕ → List (Entry G) → Type 0
WantedIn s [] = ⊥
WantedIn s (e ∷ h) = ((e.call ≡ Want s) × (e.answer ≡ NowWanted)) ⊎ WantedIn s h

wanted_in : {G : Type 0} {s : ℕ} {h : List (Entry G)} → WasWanted s h → WantedIn s h
wanted_in now_wanted = inl (refl, refl)
wanted_in (before w) = inr (wanted_in w)

module _ {G : Type 0} (m : Meaning G) where
  blank_formed : (n p : ℕ) → malformed n (replicate p (blank m)) ≡ false
  blank_formed n zero = refl
  blank_formed n (suc p) = blank_formed n p

  fresh_statement : (n s : ℕ) → On n s → get_or (replicate n (unopened m)) (s - 1) (unopened m) ≡ unopened m
  fresh_statement n s on = get_or-replicate n (s - 1) (unopened m) (unopened m) (omega arith)

-- no other call than a want says that one was wanted
not_wanted : {G : Type 0} (P : Type 0) (c : Call G) (s : ℕ) → wanted_number c ≡ 0 → c ≡ Want s → P
not_wanted P c s none e = absurd (omega (arith, sym none ∙ ap wanted_number e))

module _ {G : Type 0} (m : Meaning G) (degree : ℕ → G) where
  -- what a call keeps
  pub record Kept (c : Call G) (a : Answer G) (t u : Tables G) : Type 0 where
    pub held : Held m degree u
    pub same_count : count u ≡ count t
    pub still_open : (s : ℕ) → On (count t) s → open_mark (mark m t s) ≡ true → open_mark (mark m u s) ≡ true
    pub same_rules : u.rules ≡ cond (accepted a) (changed_by m c t.rules) t.rules
    pub wanted : (s : ℕ) → c ≡ Want s → a ≡ NowWanted → On (count t) s × (open_mark (mark m u s) ≡ true)

  pub record Good (n p : ℕ) (h : List (Entry G)) (t : Tables G) : Type 0 where
    pub held : Held m degree t
    pub same_count : count t ≡ n
    pub same_rules : t.rules ≡ in_force m p h
    pub wanted : (s : ℕ) → WantedIn s h → On n s × (open_mark (mark m t s) ≡ true)

module _ {G : Type 0} {m : Meaning G} (laws : Laws m) (degree : ℕ → G) where
  fresh_held : (n p : ℕ) → Held m degree (cleared m n p)
  fresh_held n p =
      let rules = replicate p (blank m) in
      let at : (s : ℕ) → On (count (cleared m n p)) s → statement m (cleared m n p) s ≡ unopened m = λ s on. fresh_statement m n s (rw (length-replicate n (unopened m)) at on) in
      let shut : (s : ℕ) → On (count (cleared m n p)) s → mark m (cleared m n p) s ≡ Quiet → ⊥ = λ s on q. false≢true (sym (ap (λ x. open_mark x.mark) (at s on)) ∙ ap open_mark q) in
      record {
        well_formed = blank_formed m (count (cleared m n p)) p;
        under_least = λ s on. subst (λ x. Under m x.grade (least m degree rules (count (cleared m n p)) s)) (sym (at s on)) (laws.from_lowest _);
        supported = λ s on. subst (λ x. Under m x.grade (worth m degree rules (grade m (cleared m n p)) s)) (sym (at s on)) (laws.from_lowest _);
        unopened_lowest = λ s on o. ap (λ x. x.grade) (at s on);
        quiet_exact = λ s on q. absurd (shut s on q);
        quiet_sons = λ s r on q p. absurd (shut s on q);
      }

  pub keeps : {c : Call G} {a : Answer G} {t u : Tables G} → Outcome m degree c t a u → Held m degree t → Kept m degree c a t u
  keeps (refused e) held = record { held = held; same_count = refl; still_open = λ s on o. o; same_rules = refl; wanted = λ s c a. absurd (false≢true (ap accepted a)) }
  keeps (done ok (adds {k = k} {r = r} {t = t} {u = u} w)) held =
      let checked = add_checked m k r t ok in
      record {
        held = add_held laws checked.free checked.on checked.good w held;
        same_count = sent_count m SonRose r.head t u w.statements;
        still_open = sent_open m SonRose r.head t u w.statements checked.on;
        same_rules = w.rules;
        wanted = λ s c a. not_wanted _ (Add k r) s refl c;
      }
  keeps (done ok (withdraws {k = k} {t = t} w)) held = record { held = withdraw_held m k t w held laws; same_count = w.same_count; still_open = withdraw_open m k t w; same_rules = w.rules; wanted = λ s c a. not_wanted _ (Withdraw k) s refl c }
  keeps (done ok (wants {s = r} {t = t} {u = u} w)) held =
      let on = want_checked m r t ok in
      let opened : On (count t) r × (open_mark (mark m u r) ≡ true) = (on, ap (λ x. open_mark x.mark) (sent_here m Wanted r t u w.statements on) ∙ wanted_opens _) in
      record {
        held = want_held laws on w held;
        same_count = sent_count m Wanted r t u w.statements;
        still_open = sent_open m Wanted r t u w.statements on;
        same_rules = w.rules;
        wanted = λ s c a. let same : r ≡ s = omega (arith, ap wanted_number c) in subst (λ x. On (count t) x × (open_mark (mark m u x) ≡ true)) same opened;
      }
  keeps (done ok (steps st)) held = record { held = step_held st laws held; same_count = st.same_count; still_open = step_open st; same_rules = st.rules; wanted = λ s c a. not_wanted _ Step s refl c }
  keeps (done ok (finishes f)) held = record { held = run_held laws f.steps held; same_count = run_count f.steps; still_open = run_open f.steps; same_rules = run_rules f.steps; wanted = λ s c a. not_wanted _ Finish s refl c }
  keeps (done ok (reads {s = r})) held = record { held = held; same_count = refl; still_open = λ s on o. o; same_rules = refl; wanted = λ s c a. not_wanted _ (Read r) s refl c }

  pub good : {n p : ℕ} {h : List (Entry G)} {t : Tables G} → Past m degree n p h t → Good m degree n p h t
  good {n} {p} fresh = record { held = fresh_held n p; same_count = length-replicate n (unopened m); same_rules = refl; wanted = λ s e. absurd e }
  good {n} {p} (later {h = h} {t = t} {u = u} {c = c} {a = a} past out) =
      let was = good past in
      let kept = keeps out was.held in
      let old : (s : ℕ) → WantedIn s h → On n s × (open_mark (mark m u s) ≡ true) = λ s w. let o = was.wanted s w in (o.0, kept.still_open s (rw was.same_count o.0) o.1) in
      let new : (s : ℕ) → (c ≡ Want s) × (a ≡ NowWanted) → On n s × (open_mark (mark m u s) ≡ true) = λ s e. let o = kept.wanted s e.0 e.1 in (rw was.same_count at o.0, o.1) in
      record {
        held = kept.held;
        same_count = kept.same_count ∙ was.same_count;
        same_rules = kept.same_rules ∙ ap (λ x. cond (accepted a) (changed_by m c x) x) was.same_rules;
        wanted = λ s w. ⊎_elim (new s) (old s) w;
      }

  pub stays_sound : StaysSound m degree
  stays_sound n p h t past =
      let all = good past in
      let held = all.held in
      let least-of : ℕ → G = least m degree (in_force m p h) n in
      let P : ℕ → List (Rule G) → Type 0 = λ k rules. (s : ℕ) → On k s → Under m (grade m t s) (least m degree rules k s) in
      let Q : ℕ → List (Rule G) → Type 0 = λ k rules. (s : ℕ) → On k s → Resting rules k (mark m t) s → Same m (grade m t s) (least m degree rules k s) in
      let R : ℕ → Type 0 = λ k. (s : ℕ) → On k s → open_mark (mark m t s) ≡ false → grade m t s ≡ m.lowest in
      let under : P n (in_force m p h) = subst₂ P all.same_count all.same_rules held.under_least in
      let where-resting : Q n (in_force m p h) = subst₂ Q all.same_count all.same_rules (exact_here held laws) in
      let exact : some_active t.statements ≡ false → (s : ℕ) → On n s → open_mark (mark m t s) ≡ true → Same m (grade m t s) (least-of s) =
      λ none s on o. where-resting s on (record { is_open = o; far = λ a i e l. both_ways _ (none_active m t a none) e }) in
      let on : (s : ℕ) → On (count t) s → On n s = λ s i. rw all.same_count at i in
      record {
        same_count = all.same_count;
        same_rules = all.same_rules;
        is_least = least_is_least laws degree (in_force m p h) n (subst₂ (λ k rules. malformed k rules ≡ false) all.same_count all.same_rules held.well_formed);
        under_least = under;
        unopened_lowest = subst R all.same_count held.unopened_lowest;
        resting_exact = where-resting;
        exact = exact;
        wanted_open = λ s w. all.wanted s (wanted_in w);
        read_under = λ s g settled u out. let says = read_says out in rw says.graded (under s (on s says.on));
        read_exact = λ s g u out. let says = read_says out in ap m.stands says.graded ∙ exact (not-true _ (sym says.said)) s (on s says.on) says.is_open;
      }
