-- A call has one outcome.
use Rattle.std.proofs.Common.{◌≡◌, ℕ, suc, ◌-◌, ◌<◌, Bool, true, false, List, length, get_or, None, sym, refl, ap, ◌∙◌, subst, ap₂, subst₂, ⊎_elim, arith}
use Rattle.std.proofs.lemmas.List.{ext_get_or}
use Rattle.scales.specs.Meaning.{Meaning, above}
use Rattle.model.specs.Least.{On, worth}
use Rattle.pasts.specs.Marks.{open_mark}
use Rattle.model.specs.Formed.{malformed}
use Rattle.pasts.specs.Refusals.{first}
use Rattle.pasts.specs.Tables.{Tables, unopened, statement, rule_at, grade, mark, count, checks, some_active}
use Rattle.pasts.specs.Calls.{Withdraws, Next, Steps, Runs, none, more, refused, done, Does, adds, withdraws, wants, steps, finishes, reads}
use Rattle.pasts.specs.Moves.{OneOutcome}
use Rattle.pasts.specs.declared.statement.Statement.{Statement}
use Rattle.pasts.specs.declared.call.Call.{Call}
use Rattle.pasts.specs.declared.call.Call.TheVariants.{Withdraw}
use Rattle.pasts.specs.declared.call.Answer.{Answer}
use Rattle.pasts.specs.declared.call.Answer.TheVariants.{Stepped, Finished, Refused}
use Rattle.model.proofs.Cases.{by_test, at_number}
use Rattle.pasts.proofs.Checked.{none_met}
use Rattle.model.proofs.Reach.{leads?}
use Rattle.pasts.proofs.Active.{idle}
use Rattle.pasts.proofs.Steps.{step_heard}

module _ {G : Type 0} where
  same_statement : (x y : Statement G) → x.grade ≡ y.grade → x.mark ≡ y.mark → x ≡ y
  same_statement x y p q = λ i. record { grade = p i; mark = q i }

  same_tables : (u v : Tables G) → u.statements ≡ v.statements → u.rules ≡ v.rules → u ≡ v
  same_tables u v p q = λ i. record { statements = p i; rules = q i }

module _ {G : Type 0} (m : Meaning G) where
  -- tables with the same rules and, one by one, the same statements
  by_statements : (u v : Tables G) → u.rules ≡ v.rules → count u ≡ count v → ((s : ℕ) → On (count u) s → statement m u s ≡ statement m v s) → u ≡ v
  by_statements u v rules counts each =
      let at : (i : ℕ) → i < length u.statements → get_or u.statements i (unopened m) ≡ get_or v.statements i (unopened m) =
      λ i less. let back : suc i - 1 ≡ i = omega arith in subst (λ j. get_or u.statements j (unopened m) ≡ get_or v.statements j (unopened m)) back (each (suc i) (omega arith)) in
      same_tables u v (ext_get_or (unopened m) u.statements v.statements counts at) rules

  one_withdraw : (k : ℕ) (t u v : Tables G) → malformed (count t) t.rules ≡ false → Withdraws m k t u → Withdraws m k t v → u ≡ v
  one_withdraw k t u v ok a b =
      let far : (s : ℕ) → On (count t) s → open_mark (mark m t s) ≡ true → statement m u s ≡ statement m v s =
      λ s on o. ⊎_elim (λ l. a.falls s on o l ∙ sym (b.falls s on o l)) (λ l. a.apart s on l ∙ sym (b.apart s on l)) (leads? t.rules (count t) (rule_at m t k).head ok s on) in
      let each : (s : ℕ) → On (count t) s → statement m u s ≡ statement m v s = λ s on. by_test (open_mark (mark m t s)) (far s on) (λ o. a.closed s on o ∙ sym (b.closed s on o)) in
      by_statements u v (a.rules ∙ sym b.rules) (a.same_count ∙ sym b.same_count) (λ s on. each s (rw a.same_count at on))

  one_next : (xs : List (Statement G)) (r s : ℕ) → Next m xs r → Next m xs s → r ≡ s
  one_next xs r s a b = omega (arith, a.lowest s b.on b.is_active, b.lowest r a.on a.is_active)

  module _ (degree : ℕ → G) where
    -- steps at one statement
    one_step_at : (s : ℕ) (rose : Bool) (t u v : Tables G) → Steps m degree s rose t u → Steps m degree s rose t v → u ≡ v
    one_step_at s rose t u v a b =
        let mine : grade m u s ≡ grade m v s = a.raised ∙ sym b.raised in
        let graded : (r : ℕ) → On (count t) r → grade m u r ≡ grade m v r = λ r on. at_number s (λ x. grade m u x ≡ grade m v x) r mine (λ ne. a.others r on ne ∙ sym (b.others r on ne)) in
        let each : (r : ℕ) → On (count t) r → statement m u r ≡ statement m v r = λ r on. same_statement _ _ (graded r on) (step_heard a r on ∙ sym (step_heard b r on)) in
        by_statements u v (a.rules ∙ sym b.rules) (a.same_count ∙ sym b.same_count) (λ r on. each r (rw a.same_count at on))

    one_step : (r s : ℕ) (up rose : Bool) (t u v : Tables G) → Steps m degree r up t u → Steps m degree s rose t v → (r ≡ s) × (up ≡ rose) × (u ≡ v)
    one_step r s up rose t u v a b =
        let place : r ≡ s = one_next t.statements r s a.next b.next in
        let way : up ≡ rose = a.rises ∙ ap (λ x. above m (worth m degree t.rules (grade m t) x) (grade m t x)) place ∙ sym b.rises in
        (place, way, one_step_at s rose t u v (subst₂ (λ x y. Steps m degree x y t u) place way a) b)

    one_run : {k j : ℕ} {t u v : Tables G} → Runs m degree k t u → Runs m degree j t v → some_active u.statements ≡ false → some_active v.statements ≡ false → (k ≡ j) × (u ≡ v)
    one_run none none e f = (refl, refl)
    one_run none (more st rest) e f = absurd (idle m _ _ e st.next)
    one_run (more st rest) none e f = absurd (idle m _ _ f st.next)
    one_run (more st rest) (more {k = i} {v = w} st' rest') e f =
        let same = (one_step _ _ _ _ _ _ _ st st').2 in
        let both = one_run rest (subst (λ x. Runs m degree i x w) (sym same) rest') e f in
        (ap suc both.0, both.1)

    one_does : {c : Call G} {t u v : Tables G} {a b : Answer G} → first (checks m c t) ≡ None → Does m degree c t a u → Does m degree c t b v → (a ≡ b) × (u ≡ v)
    one_does ok (adds a) (adds b) = (refl, same_tables _ _ (a.statements ∙ sym b.statements) (a.rules ∙ sym b.rules))
    one_does ok (withdraws {k = k} {t = t} a) (withdraws b) = (refl, one_withdraw k t _ _ (none_met (checks m (Withdraw k) t) ok).1.0 a b)
    one_does ok (wants a) (wants b) = (refl, same_tables _ _ (a.statements ∙ sym b.statements) (a.rules ∙ sym b.rules))
    one_does ok (steps a) (steps b) = let one = one_step _ _ _ _ _ _ _ a b in (ap₂ Stepped one.0 one.1, one.2)
    one_does ok (finishes a) (finishes b) = let one = one_run a.steps b.steps a.still b.still in (ap Finished one.0, one.1)
    one_does ok reads reads = (refl, refl)

    pub one_outcome : (t : Tables G) → OneOutcome m degree t
    one_outcome t c u v a b (refused {r = r} e) (refused {r = s} f) = let same : r ≡ s = cc in (ap Refused same, refl)
    one_outcome t c u v a b (refused e) (done f d) = cc
    one_outcome t c u v a b (done e d) (refused f) = cc
    one_outcome t c u v a b (done e d) (done f d') = one_does e d d'
