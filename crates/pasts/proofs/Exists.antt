-- Every call has an outcome; so a finish ends.
use Rattle.std.proofs.Common.{◌≡◌, ℕ, zero, suc, ◌-◌, ◌<◌, ◌≤◌, Bool, true, false, cond, ◌&&◌, eqb, ◌⊎◌, List, [], ◌∷◌, map, length, get_or, set, Some, None, Option, sym, refl, ap, ◌∙◌, subst, subst₂, inl, inr, ⊎_elim, arith}
use Rattle.std.specs.List.{range_with_len}
use Rattle.std.proofs.lemmas.List.FromFn.{length-map-range_with_len, get_or-map-range_with_len}
use Rattle.std.proofs.lemmas.Bool.{cases_Bool, cases_eq, both_ways, or_from, cond-true, cond-false, not-false, eq-eqb, ne_eqb, and_from, and_left, and_right}
use Rattle.scales.specs.Meaning.{Meaning, above}
use Rattle.scales.specs.Laws.{Laws}
use Rattle.model.specs.Rules.{Leads}
use Rattle.model.specs.Least.{On, worth}
use Rattle.pasts.specs.Marks.{answered, active, open_mark}
use Rattle.model.specs.Formed.{malformed}
use Rattle.pasts.specs.Refusals.{first}
use Rattle.pasts.specs.Tables.{Tables, unopened, blank, statement, rule_at, grade, mark, count, checks, some_active}
use Rattle.pasts.specs.Calls.{Withdraws, Next, Steps, none, more, Finishes, Outcome, refused, done, Does, adds, withdraws, wants, steps, finishes, reads}
use Rattle.pasts.specs.Moves.{SomeOutcome}
use Rattle.pasts.specs.declared.statement.Event.TheVariants.{SonRose}
use Rattle.model.specs.declared.rule.Rule.{Rule}
use Rattle.pasts.specs.declared.statement.Statement.{Statement}
use Rattle.pasts.specs.declared.refusal.Refusal.{Refusal}
use Rattle.pasts.specs.declared.call.Call.{Call}
use Rattle.pasts.specs.declared.call.Call.TheVariants.{Add, Withdraw, Want, Step, Finish, Read}
use Rattle.pasts.specs.declared.call.Answer.{Answer}
use Rattle.model.proofs.Cases.{by_test}
use Rattle.pasts.proofs.Bounded.{potential, step_falls}
use Rattle.pasts.proofs.Checked.{none_met}
use Rattle.pasts.proofs.Heard.{heard, by_cases}
use Rattle.model.proofs.Reach.{leads_test, does_lead, not_leads}

-- the first number at which a test holds, if there is one
first_one : (test : ℕ → Bool) (n : ℕ) → ((s : ℕ) → On n s → test s ≡ false) ⊎ ((s : ℕ) × On n s × (test s ≡ true) × ((r : ℕ) → On n r → test r ≡ true → s ≤ r))
first_one test zero = inl (λ s on. absurd (omega arith))
first_one test (suc n) =
    elim (first_one test n) [
      | inl clear ↦
          ⊎_elim
          (λ e. inr (suc n, omega arith, e, λ r on q. ⊎_elim (λ p. omega arith) (λ ne. absurd (both_ways (test r) (clear r (omega arith)) q)) (cases_eq r (suc n))))
          (λ e. inl (λ s on. ⊎_elim (λ q. ap test q ∙ e) (λ ne. clear s (omega arith)) (cases_eq s (suc n))))
          (cases_Bool (test (suc n)))
      | inr one ↦ inr (one.0, omega (arith, one.1), one.2, λ r on q. ⊎_elim (λ p. omega (arith, one.1)) (λ ne. one.3 r (omega arith) q) (cases_eq r (suc n)))
    ]

module _ {G : Type 0} where
  -- tables made statement by statement
  abbrev made : Tables G → List (Rule G) → (ℕ → Statement G) → Tables G
  made t rules f = record { statements = map f (range_with_len 1 (count t)); rules = rules }

  made_count : (t : Tables G) (rules : List (Rule G)) (f : ℕ → Statement G) → count (made t rules f) ≡ count t
  made_count t rules f = length-map-range_with_len f 1 (count t)

module _ {G : Type 0} (m : Meaning G) where
  made_at : (t : Tables G) (rules : List (Rule G)) (f : ℕ → Statement G) (s : ℕ) → On (count t) s → statement m (made t rules f) s ≡ f s
  made_at t rules f s on = get_or-map-range_with_len f 1 (count t) (s - 1) s (unopened m) (omega arith) (omega arith)

  all_still : (l : List (Statement G)) → ((i : ℕ) → i < length l → active (get_or l i (unopened m)).mark ≡ false) → some_active l ≡ false
  all_still [] h = refl
  all_still (x ∷ xs) h = or_from (active x.mark) (some_active xs) (h 0 (omega arith)) (all_still xs (λ i less. h (suc i) (omega arith)))

  pub some_withdraw : (k : ℕ) (t : Tables G) → malformed (count t) t.rules ≡ false → (u : Tables G) × Withdraws m k t u
  some_withdraw k t ok =
      let test : ℕ → Bool = leads_test t.rules (count t) (rule_at m t k).head in
      let fallen : ℕ → Statement G = λ s. record { grade = m.lowest; mark = answered (mark m t s) SonRose } in
      let f : ℕ → Statement G = λ s. cond (open_mark (mark m t s) && test s) (fallen s) (statement m t s) in
      let left = set t.rules (k - 1) (blank m) in
      let at : (s : ℕ) → On (count t) s → (b : Bool) → (open_mark (mark m t s) && test s) ≡ b → statement m (made t left f) s ≡ cond b (fallen s) (statement m t s) = λ s on b e. made_at t left f s on ∙ ap (λ c. cond c (fallen s) (statement m t s)) e in
      let untrue : (s : ℕ) → (Leads t.rules s (rule_at m t k).head → ⊥) → test s ≡ false = λ s far. by_test (test s) (λ e. absurd (far (does_lead t.rules (count t) (rule_at m t k).head s e))) (λ e. e) in
      let istrue : (s : ℕ) → On (count t) s → Leads t.rules s (rule_at m t k).head → test s ≡ true = λ s on l. by_test (test s) (λ e. e) (λ e. absurd (not_leads t.rules (count t) (rule_at m t k).head ok s on e l)) in (
        made t left f,
        record {
          rules = refl;
          same_count = made_count t left f;
          falls = λ s on o l. at s on true (and_from _ _ o (istrue s on l));
          closed = λ s on o. at s on false (and_left _ _ o);
          apart = λ s on far. at s on false (and_right _ _ (untrue s far));
        },
      )

  pub some_next : (t : Tables G) → some_active t.statements ≡ true → (s : ℕ) × Next m t.statements s
  some_next t e =
      let at : ((s : ℕ) → On (count t) s → active (mark m t s) ≡ false) → (i : ℕ) → i < length t.statements → active (get_or t.statements i (unopened m)).mark ≡ false =
      λ clear i less. let back : suc i - 1 ≡ i = omega arith in subst (λ j. active (get_or t.statements j (unopened m)).mark ≡ false) back (clear (suc i) (omega arith)) in
      elim (first_one (λ s. active (mark m t s)) (count t)) [
        | inl clear ↦ absurd (both_ways _ (all_still t.statements (at clear)) e)
        | inr one ↦ (one.0, record { on = one.1; is_active = one.2; lowest = one.3 })
      ]

  module _ (degree : ℕ → G) where
    pub rises : Tables G → ℕ → Bool
    rises t s = above m (worth m degree t.rules (grade m t) s) (grade m t s)

    pub some_step : (t : Tables G) (s : ℕ) → Next m t.statements s → (u : Tables G) × Steps m degree s (rises t s) t u
    unfolding rises
    some_step t s next =
        let rose = rises t s in
        let new = cond rose (worth m degree t.rules (grade m t) s) (grade m t s) in
        let f : ℕ → Statement G = λ r. record { grade = cond (eqb r s) new (grade m t r); mark = heard m t s rose r } in
        let u = made t t.rules f in (
          u,
          record {
            next = next;
            rises = refl;
            rules = refl;
            same_count = made_count t t.rules f;
            raised = ap (λ x. x.grade) (made_at t t.rules f s next.on) ∙ cond-true (eqb s s) new (grade m t s) (eq-eqb s s refl);
            others = λ r on ne. ap (λ x. x.grade) (made_at t t.rules f r on) ∙ cond-false (eqb r s) new (grade m t r) (ne_eqb r s ne);
            marks = by_cases m s rose t u next (λ r on. ap (λ x. x.mark) (made_at t t.rules f r on));
          },
        )

-- what all statements can still cost: a measure of the steps
abbrev pub measure : {G : Type 0} → Meaning G → Tables G → ℕ
measure m t = potential m t.rules (count t) (λ r. true) t

module _ {G : Type 0} {m : Meaning G} (laws : Laws m) (degree : ℕ → G) where
  pub measure_falls : {s : ℕ} {rose : Bool} {t u : Tables G} → Steps m degree s rose t u → measure m u < measure m t
  measure_falls {s} {rose} {t} {u} st =
      subst₂ (λ rules n. potential m rules n (λ r. true) u < measure m t) (sym st.rules) (sym st.same_count) (step_falls st laws (λ r. true) refl)

  pub some_finish : (fuel : ℕ) (t : Tables G) → measure m t ≤ fuel → (k : ℕ) × (u : Tables G) × Finishes m degree k t u
  some_finish zero t enough =
      let stuck : some_active t.statements ≡ true → some_active t.statements ≡ false = λ e. let next = some_next m t e in absurd (omega (arith, measure_falls (some_step m degree t next.0 next.1).1)) in
      (0, t, record { steps = none; still = by_test (some_active t.statements) stuck (λ e. e) })
  some_finish (suc fuel) t enough =
      elim (cases_Bool (some_active t.statements)) [
        | inl e ↦
            let next = some_next m t e in
            let step = some_step m degree t next.0 next.1 in
            let rest = some_finish fuel step.0 (omega (arith, measure_falls step.1)) in
            (suc rest.0, rest.1, record { steps = more step.1 rest.2.steps; still = rest.2.still })
        | inr e ↦ (0, t, record { steps = none; still = e })
      ]

  some_does : (c : Call G) (t : Tables G) → first (checks m c t) ≡ None → (a : Answer G) × (u : Tables G) × Does m degree c t a u
  some_does (Add k r) t ok = (_, _, adds (record { rules = refl; statements = refl }))
  some_does (Withdraw k) t ok = let some = some_withdraw m k t (none_met (checks m (Withdraw k) t) ok).1.0 in (_, some.0, withdraws some.1)
  some_does (Want s) t ok = (_, _, wants (record { rules = refl; statements = refl }))
  some_does Step t ok =
      let next = some_next m t (not-false _ (none_met (checks m Step t) ok).1.1.0) in
      let step = some_step m degree t next.0 next.1 in
      (_, step.0, steps step.1)
  some_does Finish t ok = let some = some_finish (measure m t) t (omega arith) in (_, some.1, finishes some.2)
  some_does (Read s) t ok = (_, t, reads)

  pub some_outcome : (t : Tables G) → SomeOutcome m degree t
  some_outcome t c = go (first (checks m c t)) refl
    where
      go : (o : Option Refusal) → first (checks m c t) ≡ o → (a : Answer G) × (u : Tables G) × Outcome m degree c t a u
      go (Some r) e = (_, _, refused e)
      go None e = let some = some_does c t e in (some.0, some.1, done e some.2)
