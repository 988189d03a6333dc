-- Every step keeps what holds.
use Rattle.std.proofs.Common.{◌≡◌, ℕ, Bool, true, false, cond, ◌&&◌, eqb, ◌⊎◌, sym, ap, ◌∙◌, subst₂, ⊎_elim}
use Rattle.std.proofs.lemmas.Bool.{cases_eq, and_cases, and_parts, both_ways, ne_eqb}
use Rattle.scales.specs.Meaning.{Meaning, Under, Same}
use Rattle.scales.specs.Laws.{Laws}
use Rattle.model.specs.Rules.{son}
use Rattle.model.specs.Least.{On, worth, least}
use Rattle.pasts.specs.Marks.{open_mark}
use Rattle.pasts.specs.Tables.{Tables, grade, mark, count}
use Rattle.pasts.specs.Calls.{Steps, Runs, none, more}
use Rattle.pasts.specs.declared.statement.Mark.TheVariants.{Quiet}
use Rattle.model.proofs.Cases.{by_test, at_number}
use Rattle.model.proofs.Sons.{son_on}
use Rattle.model.proofs.Monotone.{under_eq, monotone, worth_same}
use Rattle.model.proofs.Rounds.{no_rise, least_is_least}
use Rattle.pasts.proofs.Hearing.{heard_by, active_open, son_open, quiet_untold, quiet_before}
use Rattle.pasts.proofs.Steps.{step_heard, step_open}
use Rattle.pasts.proofs.Held.{Holds, Held}

module _ {G : Type 0} {m : Meaning G} {degree : ℕ → G} {s : ℕ} {rose : Bool} {t u : Tables G} (st : Steps m degree s rose t u) where
  -- by cases: s that rose, s that did not, another statement
  by_statement : (P : ℕ → Type 0) → (rose ≡ true → grade m u s ≡ worth m degree t.rules (grade m t) s → P s) → (rose ≡ false → grade m u s ≡ grade m t s → P s) → ((r : ℕ) → On (count t) r → (r ≡ s → ⊥) → P r) → (r : ℕ) → On (count t) r → P r
  by_statement P up stay other r on =
      let at : (b : Bool) → rose ≡ b → grade m u s ≡ cond b (worth m degree t.rules (grade m t) s) (grade m t s) = λ b e. st.raised ∙ ap (λ c. cond c (worth m degree t.rules (grade m t) s) (grade m t s)) e in
      let mine : P s = by_test rose (λ e. up e (at true e)) (λ e. stay e (at false e)) in
      at_number s P r mine (other r on)

  marked : (r : ℕ) → On (count t) r → mark m u r ≡ Quiet → heard_by (mark m t r) (eqb r s) (son t.rules s r) (rose && son t.rules r s) ≡ Quiet
  marked r on e = sym (step_heard st r on) ∙ e

  was_quiet : (r : ℕ) → On (count t) r → (r ≡ s → ⊥) → mark m u r ≡ Quiet → mark m t r ≡ Quiet
  was_quiet r on ne e = quiet_before (mark m t r) (son t.rules s r) _ (rw (ne_eqb r s ne) at (marked r on e))

  module _ (held : Held m degree t) where
    quiet_sons_after : (r x : ℕ) → On (count t) r → mark m u r ≡ Quiet → son t.rules r x ≡ true → open_mark (mark m u x) ≡ true
    quiet_sons_after r x on e q =
        let i = son_on (count t) t.rules r x held.well_formed on.0 q in
        let of-taken : r ≡ s → open_mark (mark m u x) ≡ true = λ p. rw (step_heard st x i) (rw (rw p at q) (son_open (mark m t x) (eqb x s) (rose && son t.rules x s))) in
        ⊎_elim of-taken (λ ne. step_open st x i (held.quiet_sons r x on (was_quiet r on ne e) q)) (cases_eq r s)

    closed_lowest : (r : ℕ) → On (count t) r → open_mark (mark m u r) ≡ false → grade m u r ≡ m.lowest
    closed_lowest r on e =
        let shut : open_mark (mark m t r) ≡ false = by_test (open_mark (mark m t r)) (λ o. absurd (both_ways _ e (step_open st r on o))) (λ o. o) in
        let ne : r ≡ s → ⊥ = λ p. both_ways _ shut (active_open _ (rw p st.next.is_active)) in
        st.others r on ne ∙ held.unopened_lowest r on shut

  module _ (laws : Laws m) where
    grades_rise : (r : ℕ) → On (count t) r → Under m (grade m t r) (grade m u r)
    grades_rise =
        by_statement (λ r. Under m (grade m t r) (grade m u r))
        (λ e at. rw at (and_parts _ _ (sym st.rises ∙ e)).0)
        (λ e at. under_eq laws (sym at))
        (λ r on ne. under_eq laws (sym (st.others r on ne)))

    module _ (held : Held m degree t) where
      under_worth : (r : ℕ) → On (count t) r → Under m (grade m u r) (worth m degree t.rules (grade m t) r)
      under_worth =
          by_statement (λ r. Under m (grade m u r) (worth m degree t.rules (grade m t) r))
          (λ e at. under_eq laws at)
          (λ e at. rw at (held.supported s st.next.on))
          (λ r on ne. rw (st.others r on ne) (held.supported r on))

      -- one that is not told has the sons' grades that it had
      untold_same : (r : ℕ) → On (count t) r → (rose && son t.rules r s) ≡ false → Same m (worth m degree t.rules (grade m t) r) (worth m degree t.rules (grade m u) r)
      untold_same r on q =
          let still : (rose ≡ false) ⊎ (son t.rules r s ≡ false) = and_cases _ _ q in
          let kept : (x : ℕ) → On (count t) x → son t.rules r x ≡ true → grade m t x ≡ grade m u x =
          by_statement (λ x. son t.rules r x ≡ true → grade m t x ≡ grade m u x)
          (λ e at p. ⊎_elim (λ f. absurd (both_ways rose f e)) (λ f. absurd (both_ways _ f p)) still)
          (λ e at p. sym at)
          (λ x i ne p. sym (st.others x i ne)) in
          worth_same laws degree t.rules (grade m t) (grade m u) r (λ x p. ap m.stands (kept x (son_on (count t) t.rules r x held.well_formed on.0 p) p))

      taken_exact : Same m (grade m u s) (worth m degree t.rules (grade m t) s)
      taken_exact =
          let on = st.next.on in
          let stay : rose ≡ false → grade m u s ≡ grade m t s → Same m (grade m u s) (worth m degree t.rules (grade m t) s) = λ e at. ap m.stands at ∙ laws.antisymmetric _ _ (held.supported s on) (no_rise m _ _ (held.supported s on) (sym st.rises ∙ e)) in
          by_test rose (λ e. ap m.stands (st.raised ∙ ap (λ c. cond c (worth m degree t.rules (grade m t) s) (grade m t s)) e)) (λ e. stay e (st.raised ∙ ap (λ c. cond c (worth m degree t.rules (grade m t) s) (grade m t s)) e))

      quiet_exact_after : (r : ℕ) → On (count t) r → mark m u r ≡ Quiet → Same m (grade m u r) (worth m degree t.rules (grade m u) r)
      quiet_exact_after r on e =
          let before : Same m (grade m u r) (worth m degree t.rules (grade m t) r) = at_number s (λ x. Same m (grade m u x) (worth m degree t.rules (grade m t) x)) r taken_exact (λ ne. ap m.stands (st.others r on ne) ∙ held.quiet_exact r on (was_quiet r on ne e)) in
          before ∙ untold_same r on (quiet_untold (mark m t r) (eqb r s) (son t.rules s r) _ (marked r on e))

      pub step_held : Held m degree u
      step_held =
          let ok = held.well_formed in
          let n = count t in
          let up : (r : ℕ) → On n r → Under m (worth m degree t.rules (grade m t) r) (worth m degree t.rules (least m degree t.rules n) r) = monotone laws degree t.rules (grade m t) (least m degree t.rules n) n ok held.under_least in
          let after : Holds m degree t.rules n (grade m u) (mark m u) = record {
            well_formed = ok;
            under_least = λ r on. laws.transitive _ _ _ (under_worth r on) (laws.transitive _ _ _ (up r on) ((least_is_least laws degree t.rules n ok).model r on));
            supported = λ r on. laws.transitive _ _ _ (under_worth r on) (monotone laws degree t.rules (grade m t) (grade m u) n ok grades_rise r on);
            unopened_lowest = closed_lowest held;
            quiet_exact = quiet_exact_after;
            quiet_sons = quiet_sons_after held;
          } in
          subst₂ (λ rules k. Holds m degree rules k (grade m u) (mark m u)) (sym st.rules) (sym st.same_count) after

module _ {G : Type 0} {m : Meaning G} (laws : Laws m) {degree : ℕ → G} where
  pub run_held : {k : ℕ} {t u : Tables G} → Runs m degree k t u → Held m degree t → Held m degree u
  run_held none held = held
  run_held (more st rest) held = run_held rest (step_held st laws held)
