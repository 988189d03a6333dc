-- After every past a board within its limits takes every call that asks for what is there.
use Rattle.std.proofs.Common.{◌≡◌, ℕ, ◌-◌, Bool, true, false, cond, not, ◌||◌, eqb, ltb, List, [], ◌∷◌, length, sym, refl, ap, ◌∙◌, subst, ⊎_elim, arith, length-set}
use lib.ListN.{length-replicate}
use Rattle.std.proofs.lemmas.Bool.{or_from, or_parts, ne_eqb, eq-eqb, and_cases, not-false, false≢true, eqb-true, cond-true, cond-false}
use Rattle.scales.specs.Meaning.{Meaning}
use Rattle.scales.specs.Laws.{Laws}
use Rattle.model.specs.Rules.{present}
use Rattle.model.specs.Formed.{gap, body_above}
use Rattle.model.specs.Least.{On}
use Rattle.model.specs.declared.rule.Rule.{Rule}
use Rattle.model.proofs.Cases.{by_test, at_test}
use Rattle.pasts.specs.Refusals.{outside}
use Rattle.pasts.specs.Tables.{Tables, blank, grade, count, table_checks, body_checks, checks}
use Rattle.pasts.specs.Calls.{Outcome, done, reads, adds, wants, withdraws, steps, finishes}
use Rattle.pasts.specs.declared.call.Entry.{Entry}
use Rattle.pasts.specs.Pasts.{in_force, accepted, changed_by}
use Rattle.pasts.specs.Promises.{Usable, StaysUsable, ReadIsSettled}
use Rattle.pasts.specs.declared.call.Call.{Call}
use Rattle.pasts.specs.declared.call.Call.TheVariants.{Add, Withdraw, Want, Step, Finish, Read}
use Rattle.pasts.specs.declared.call.Answer.TheVariants.{Graded}
use Rattle.pasts.proofs.Checked.{Unmet, all_unmet, on_inside}
use Rattle.pasts.proofs.Exists.{some_withdraw, some_next, some_step, some_finish, measure}
use Rattle.pasts.proofs.Sounds.{good, stays_sound}

none_after : (bs : List ℕ) → length (present bs) ≡ 0 → (n : ℕ) → body_above n bs ≡ false → Unmet (body_checks n true bs)
none_after [] e n low = tt
none_after (b ∷ bs) e n low =
    let parts = or_parts (ltb n b) (body_above n bs) low in
    let gone : eqb b 0 ≡ true = by_test (eqb b 0) (λ q. q) (λ q. absurd (omega (arith, sym e ∙ ap length (cond-false (eqb b 0) (present bs) (b ∷ present bs) q)))) in
    let rest : length (present bs) ≡ 0 = sym (ap length (cond-true (eqb b 0) (present bs) (b ∷ present bs) gone)) ∙ e in
    (parts.0, (ap not gone, subst (λ c. Unmet (body_checks n c bs)) (sym gone) (none_after bs rest n parts.1)))

pub bodies_unmet : (n : ℕ) (bs : List ℕ) → body_above n bs ≡ false → gap bs ≡ false → Unmet (body_checks n false bs)
bodies_unmet n [] low flush = tt
bodies_unmet n (b ∷ bs) low flush =
    let parts = or_parts (ltb n b) (body_above n bs) low in
    let there : eqb b 0 ≡ false → Unmet (body_checks n (eqb b 0) bs) = λ q. subst (λ c. Unmet (body_checks n c bs)) (sym q) (bodies_unmet n bs parts.1 (sym (cond-false (eqb b 0) (not (eqb (length (present bs)) 0)) (gap bs) q) ∙ flush)) in
    let absent : eqb b 0 ≡ true → Unmet (body_checks n (eqb b 0) bs) = λ q. subst (λ c. Unmet (body_checks n c bs)) (sym q) (none_after bs (eqb-true _ 0 (not-false _ (sym (cond-true (eqb b 0) (not (eqb (length (present bs)) 0)) (gap bs) q) ∙ flush))) n parts.1) in
    (parts.0, (refl, by_test (eqb b 0) absent there))

module _ {G : Type 0} (m : Meaning G) where
  changed_length : (c : Call G) (rules : List (Rule G)) → length (changed_by m c rules) ≡ length rules
  changed_length (Add k r) rules = length-set rules (k - 1) r
  changed_length (Withdraw k) rules = length-set rules (k - 1) (blank m)
  changed_length (Want s) rules = refl
  changed_length Step rules = refl
  changed_length Finish rules = refl
  changed_length (Read s) rules = refl

  pub force_length : (p : ℕ) (h : List (Entry G)) → length (in_force m p h) ≡ p
  force_length p [] = length-replicate p (blank m)
  force_length p (e ∷ h) =
      at_test (accepted e.answer) (λ c. length (cond c (changed_by m e.call (in_force m p h)) (in_force m p h)) ≡ p) (λ _. changed_length e.call (in_force m p h) ∙ force_length p h) (λ _. force_length p h)

module _ {G : Type 0} {m : Meaning G} (laws : Laws m) (degree : ℕ → G) where
  usable : (n p : ℕ) (t : Tables G) → Unmet (table_checks t) → count t ≡ n → length t.rules ≡ p → Usable m degree n p t
  usable n p t sound counts lengths =
      let on : (s : ℕ) → On n s → outside (count t) s ≡ false = λ s i. on_inside (count t) s (rw counts i) in
      let at : (k : ℕ) → On p k → outside (length t.rules) k ≡ false = λ k i. on_inside (length t.rules) k (rw lengths i) in
      let with-finish = some_finish laws degree (measure m t) t (omega arith) in
      record {
        add = λ k r place free head formed.
            let tail = ⊎_elim (λ e. absurd (false≢true (sym (ne_eqb r.head 0 (omega arith)) ∙ not-false (eqb r.head 0) e))) (λ e. or_parts (body_above n r.bodies) (gap r.bodies) (or_parts (ltb n r.head) _ e).1) (and_cases (not (eqb r.head 0)) _ formed) in
            let bodies : Unmet (body_checks (count t) false r.bodies) = bodies_unmet (count t) r.bodies (subst (λ x. body_above x r.bodies ≡ false) (sym counts) tail.0) tail.1 in
            (_, done (all_unmet (checks m (Add k r) t) (sound.0, (sound.1.0, (at k place, (ap not (eq-eqb _ 0 free), (on r.head head, bodies)))))) (adds (record { rules = refl; statements = refl })));
        withdraw = λ k place full.
            let some = some_withdraw m k t sound.1.0 in
            (some.0, done (all_unmet (checks m (Withdraw k) t) (sound.0, (sound.1.0, (at k place, (ne_eqb _ 0 full, tt))))) (withdraws some.1));
        want = λ s i. (_, done (all_unmet (checks m (Want s) t) (sound.0, (sound.1.0, (on s i, tt)))) (wants (record { rules = refl; statements = refl })));
        step = λ active.
            let next = some_next m t active in
            let step = some_step m degree t next.0 next.1 in
            (_, _, step.0, done (all_unmet (checks m Step t) (sound.0, (sound.1.0, (ap not active, tt)))) (steps step.1));
        finish = (_, with-finish.1, done (all_unmet (checks m Finish t) sound) (finishes with-finish.2));
        read = λ s i o. done (all_unmet (checks m (Read s) t) (sound.0, (sound.1.0, (on s i, (ap not o, tt))))) reads;
      }

  pub stays_usable : StaysUsable m degree
  stays_usable n p h t past few short =
      let all = good laws degree past in
      let places : length t.rules ≡ p = ap length all.same_rules ∙ force_length m p h in
      let lengths : (outside 1024 (count t) || outside 4096 (length t.rules)) ≡ false = or_from _ _ (on_inside 1024 (count t) (rw all.same_count few)) (on_inside 4096 (length t.rules) (rw places short)) in
      usable n p t (lengths, (all.held.well_formed, tt)) all.same_count places

  pub read_is_settled : ReadIsSettled m degree
  read_is_settled n p h t past few short still s on opened =
      let P : Bool → Type 0 = λ b. Outcome m degree (Read s) t (Graded (grade m t s) b) t in
      (grade m t s, subst P (ap not still) ((stays_usable n p h t past few short).read s on opened), (stays_sound laws degree n p h t past).exact still s on opened)
