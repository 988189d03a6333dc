-- An accepted want, and an accepted add, keep what holds.
use Rattle.std.proofs.Common.{◌≡◌, ℕ, ◌-◌, true, false, eqb, List, length, get_or, set, sym, ap, ◌∙◌, subst₂, arith, length-set}
use Rattle.std.proofs.lemmas.List.{get_or-set_same, get_or-set_other}
use Rattle.std.proofs.lemmas.Bool.{ne_eqb}
use Rattle.scales.specs.Meaning.{Meaning, Under}
use Rattle.scales.specs.Laws.{Laws}
use Rattle.model.specs.Least.{On, worth, least, Model}
use Rattle.pasts.specs.Marks.{answered, open_mark}
use Rattle.model.specs.Formed.{malformed, malformed_place}
use Rattle.pasts.specs.Tables.{Tables, told, unopened, statement, grade, mark, count, rule_at, blank}
use Rattle.pasts.specs.Calls.{Sent, Adds}
use Rattle.model.specs.declared.rule.Rule.{Rule}
use Rattle.pasts.specs.declared.statement.Mark.{Mark}
use Rattle.pasts.specs.declared.statement.Mark.TheVariants.{Quiet}
use Rattle.pasts.specs.declared.statement.Event.{Event}
use Rattle.pasts.specs.declared.statement.Event.TheVariants.{Wanted, SonRose}
use Rattle.model.proofs.Cases.{at_number}
use Rattle.model.proofs.Rounds.{least_is_least}
use Rattle.pasts.proofs.Placed.{put_formed, put_son, put_joined, put_adds}
use Rattle.pasts.proofs.Hearing.{stays_open, quiet_wanted, quiet_told}
use Rattle.pasts.proofs.Held.{Holds, Held, re_marked}

module _ {G : Type 0} (m : Meaning G) (e : Event) (s : ℕ) (t : Tables G) where
  module _ (u : Tables G) (sent : u.statements ≡ set t.statements (s - 1) (told e (statement m t s))) where
    pub sent_count : count u ≡ count t
    sent_count = ap length sent ∙ length-set t.statements (s - 1) (told e (statement m t s))

    module _ (on : On (count t) s) where
      pub sent_here : statement m u s ≡ told e (statement m t s)
      sent_here = ap (λ l. get_or l (s - 1) (unopened m)) sent ∙ get_or-set_same t.statements (s - 1) (told e (statement m t s)) (unopened m) (omega arith)

      pub sent_other : (r : ℕ) → On (count t) r → (r ≡ s → ⊥) → statement m u r ≡ statement m t r
      sent_other r i ne = ap (λ l. get_or l (r - 1) (unopened m)) sent ∙ get_or-set_other t.statements (s - 1) (r - 1) (told e (statement m t s)) (unopened m) (omega arith)

      pub sent_grade : (r : ℕ) → On (count t) r → grade m u r ≡ grade m t r
      sent_grade r i = at_number s (λ x. grade m u x ≡ grade m t x) r (ap (λ x. x.grade) sent_here) (λ ne. ap (λ x. x.grade) (sent_other r i ne))

      pub sent_open : (r : ℕ) → On (count t) r → open_mark (mark m t r) ≡ true → open_mark (mark m u r) ≡ true
      sent_open r i h =
          let mine : open_mark (mark m t s) ≡ true → open_mark (mark m u s) ≡ true = λ o. ap (λ x. open_mark x.mark) sent_here ∙ stays_open (mark m t s) e o in
          at_number s (λ x. open_mark (mark m t x) ≡ true → open_mark (mark m u x) ≡ true) r mine (λ ne o. ap (λ x. open_mark x.mark) (sent_other r i ne) ∙ o) h

      -- one that is quiet after the event was quiet before, if the event does not make it so
      pub sent_quiet : (answered (mark m t s) e ≡ Quiet → mark m t s ≡ Quiet) → (r : ℕ) → On (count t) r → mark m u r ≡ Quiet → mark m t r ≡ Quiet
      sent_quiet back r i q =
          at_number s (λ x. mark m u x ≡ Quiet → mark m t x ≡ Quiet) r (λ o. back (sym (ap (λ x. x.mark) sent_here) ∙ o)) (λ ne o. sym (ap (λ x. x.mark) (sent_other r i ne)) ∙ o) q

was_free : {G : Type 0} (rules : List (Rule G)) (n j : ℕ) (d : Rule G) → (get_or rules j d).head ≡ 0 → (s : ℕ) → On n s → eqb (get_or rules j d).head s ≡ false
was_free rules n j d free s on = rw free (ne_eqb 0 s (omega arith))

quiet_apart : {G : Type 0} (r : Rule G) (marks : ℕ → Mark) → (marks r.head ≡ Quiet → ⊥) → (s : ℕ) → marks s ≡ Quiet → eqb r.head s ≡ false
quiet_apart r marks loud s q = ne_eqb r.head s (λ e. loud (ap marks e ∙ q))

module _ {G : Type 0} {m : Meaning G} (laws : Laws m) (degree : ℕ → G) (rules : List (Rule G)) (j : ℕ) (r d : Rule G) (free : (get_or rules j d).head ≡ 0) where
  more_worth : (n : ℕ) (f : ℕ → G) (s : ℕ) → On n s → Under m (worth m degree rules f s) (worth m degree (set rules j r) f s)
  more_worth n f s on = put_adds laws f s rules j r d (degree s) (was_free rules n j d free s on)

  -- more rules, a higher least model
  least_rises : (n : ℕ) → malformed n rules ≡ false → malformed n (set rules j r) ≡ false → (s : ℕ) → On n s → Under m (least m degree rules n s) (least m degree (set rules j r) n s)
  least_rises n before after =
      let new = least m degree (set rules j r) n in
      let model : Model m degree rules n new = λ s on. laws.transitive _ _ _ (more_worth n new s on) ((least_is_least laws degree (set rules j r) n after).model s on) in
      (least_is_least laws degree rules n before).under new model

  -- a rule put where none was, with a head that is not quiet
  put_held : {n : ℕ} {g : ℕ → G} {marks : ℕ → Mark} → malformed_place n r ≡ false → (marks r.head ≡ Quiet → ⊥) → Holds m degree rules n g marks → Holds m degree (set rules j r) n g marks
  put_held {n} {g} {marks} good loud held =
      let formed = put_formed n rules j r held.well_formed good in
      let was : (s : ℕ) → On n s → eqb (get_or rules j d).head s ≡ false = was_free rules n j d free in
      let apart : (s : ℕ) → marks s ≡ Quiet → eqb r.head s ≡ false = quiet_apart r marks loud in
      record {
        well_formed = formed;
        under_least = λ s on. laws.transitive _ _ _ (held.under_least s on) (least_rises n held.well_formed formed s on);
        supported = λ s on. laws.transitive _ _ _ (held.supported s on) (more_worth n g s on);
        unopened_lowest = held.unopened_lowest;
        quiet_exact = λ s on q. held.quiet_exact s on q ∙ ap m.stands (sym (put_joined m g s rules j r d (degree s) (was s on) (apart s q)));
        quiet_sons = λ s x on q p. held.quiet_sons s x on q (sym (put_son s x rules j r d (was s on) (apart s q)) ∙ p);
      }

module _ {G : Type 0} {m : Meaning G} (laws : Laws m) {degree : ℕ → G} where
  pub want_held : {s : ℕ} {t u : Tables G} → On (count t) s → Sent m Wanted s t u → Held m degree t → Held m degree u
  want_held {s} {t} {u} on sent held =
      let c = sent_count m Wanted s t u sent.statements in
      let after = re_marked held laws (grade m u) (mark m u) (sent_grade m Wanted s t u sent.statements on) (sent_quiet m Wanted s t u sent.statements on (quiet_wanted _)) (sent_open m Wanted s t u sent.statements on) in
      subst₂ (λ rules k. Holds m degree rules k (grade m u) (mark m u)) (sym sent.rules) (sym c) after

  pub add_held : {k : ℕ} {r : Rule G} {t u : Tables G} → (rule_at m t k).head ≡ 0 → On (count t) r.head → malformed_place (count t) r ≡ false → Adds m k r t u → Held m degree t → Held m degree u
  add_held {k} {r} {t} {u} free on good adds held =
      let c = sent_count m SonRose r.head t u adds.statements in
      let heard : mark m u r.head ≡ answered (mark m t r.head) SonRose = ap (λ x. x.mark) (sent_here m SonRose r.head t u adds.statements on) in
      let marked = re_marked held laws (grade m u) (mark m u) (sent_grade m SonRose r.head t u adds.statements on) (sent_quiet m SonRose r.head t u adds.statements on (λ q. absurd (quiet_told _ q))) (sent_open m SonRose r.head t u adds.statements on) in
      let after = put_held laws degree t.rules (k - 1) r (blank m) free good (λ q. quiet_told _ (sym heard ∙ q)) marked in
      subst₂ (λ rules n. Holds m degree rules n (grade m u) (mark m u)) (sym adds.rules) (sym c) after
