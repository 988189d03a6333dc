-- Which statements are sons of one, where the rules are well formed.
use Rattle.std.proofs.Common.{◌≡◌, ℕ, ◌≤◌, true, false, not, ◌||◌, eqb, ltb, List, [], ◌∷◌, sym, ◌∙◌, ⊎_elim, arith}
use Rattle.std.proofs.lemmas.Bool.{false≢true, or_parts, or_cases, eqb-true, eqb-false, ne_eqb, ltb-false, cond_both, and_cases, not-false}
use Rattle.model.specs.Rules.{present, holds, son}
use Rattle.model.specs.Least.{On}
use Rattle.model.specs.Formed.{body_above, malformed_place, malformed, gap}
use Rattle.model.specs.declared.rule.Rule.{Rule}

-- what is among the bodies that are there is no zero, and at most n
pub held_on : (n : ℕ) (bs : List ℕ) (t : ℕ) → body_above n bs ≡ false → holds (present bs) t ≡ true → On n t
held_on n [] t low h = absurd (false≢true h)
held_on n (b ∷ bs) t low h =
    let parts = or_parts (ltb n b) (body_above n bs) low in
    let there : eqb b 0 ≡ false → (eqb b t || holds (present bs) t) ≡ true → On n t = λ e i. ⊎_elim (λ q. omega (arith, eqb-true b t q, ltb-false n b parts.0, eqb-false b 0 e)) (held_on n bs t parts.1) (or_cases (eqb b t) (holds (present bs) t) i) in
    cond_both (eqb b 0) (present bs) (b ∷ present bs) (λ z. holds z t ≡ true → On n t) (λ e. held_on n bs t parts.1) there h

module _ {G : Type 0} where
  -- a rule of well_formed ones with a head has low bodies
  pub bodies_low : (n : ℕ) (r : Rule G) → malformed_place n r ≡ false → 1 ≤ r.head → body_above n r.bodies ≡ false
  bodies_low n r ok some =
      let no_head : not (eqb r.head 0) ≡ false → body_above n r.bodies ≡ false = λ e. absurd (false≢true (sym (ne_eqb r.head 0 (omega arith)) ∙ not-false (eqb r.head 0) e)) in
      let tail : (ltb n r.head || (body_above n r.bodies || gap r.bodies)) ≡ false → body_above n r.bodies ≡ false = λ e. (or_parts (body_above n r.bodies) (gap r.bodies) (or_parts (ltb n r.head) _ e).1).0 in
      ⊎_elim no_head tail (and_cases (not (eqb r.head 0)) _ ok)

  pub son_on : (n : ℕ) (rules : List (Rule G)) (s t : ℕ) → malformed n rules ≡ false → 1 ≤ s → son rules s t ≡ true → On n t
  son_on n [] s t ok some h = absurd (false≢true h)
  son_on n (r ∷ rs) s t ok some h =
      let parts = or_parts (malformed_place n r) (malformed n rs) ok in
      let mine : eqb r.head s ≡ true → (holds (present r.bodies) t || son rs s t) ≡ true → On n t =
      λ e i. ⊎_elim (held_on n r.bodies t (bodies_low n r parts.0 (omega (arith, eqb-true r.head s e)))) (son_on n rs s t parts.1 some) (or_cases (holds (present r.bodies) t) (son rs s t) i) in
      cond_both (eqb r.head s) (holds (present r.bodies) t || son rs s t) (son rs s t) (λ z. z ≡ true → On n t) mine (λ e. son_on n rs s t parts.1 some) h
