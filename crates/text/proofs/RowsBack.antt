-- The line of a rule that fits the board passes all checks, and says that rule.
use Rattle.std.proofs.Common.{◌≡◌, ℕ, ◌<◌, ◌≤◌, Bool, true, false, not, ◌&&◌, eqb, ltb, leb, List, [], ◌∷◌, length, get_or, sym, refl, ap, ◌∙◌, subst, arith}
use Rattle.std.proofs.lemmas.Bool.{lt-leb, le-ltb, ltb-false, ne_eqb, eq-eqb, not_from_true, not_from_false, or_parts, both_ways}
use Rattle.scales.specs.Meaning.{Meaning}
use Rattle.scales.specs.Codes.{Coding, Codes}
use Rattle.model.specs.Formed.{body_above, gap}
use Rattle.pasts.specs.Refusals.{outside}
use Rattle.pasts.specs.Tables.{body_checks}
use Rattle.pasts.proofs.Checked.{on_inside, Unmet as UnmetCalls}
use Rattle.pasts.proofs.Usables.{bodies_unmet}
use Rattle.text.specs.Boards.{Fitting, Alike}
use Rattle.text.specs.Decimal.{written}
use Rattle.text.specs.Faults.{Unmet}
use Rattle.text.specs.Fields.{number_of}
use Rattle.text.specs.Rows.{rule_in, rule_checks, counts_checks}
use Rattle.text.specs.Spelling.{row_front, header_front}
use Rattle.text.specs.declared.numbered.Numbered.{Numbered}
use Rattle.text.proofs.FieldsSpelled.{number_good, number_back, form_back, weight_number, weight_good, weight_back}

four : (bs : List ℕ) → length bs ≡ 4 → bs ≡ get_or bs 0 0 ∷ get_or bs 1 0 ∷ get_or bs 2 0 ∷ get_or bs 3 0 ∷ []
four (a ∷ b ∷ c ∷ d ∷ []) h = refl
four [] h = absurd (omega arith)
four (a ∷ []) h = absurd (omega arith)
four (a ∷ b ∷ []) h = absurd (omega arith)
four (a ∷ b ∷ c ∷ []) h = absurd (omega arith)
four (a ∷ b ∷ c ∷ d ∷ e ∷ es) h = absurd (omega arith)

there : (x y : Bool) → x ≡ true → (x && y) ≡ false → y ≡ false
there true y e h = h
there false y e h = absurd (both_ways false refl e)

pub header_back : (n p j : ℕ) → n < 100000 → j < 100000 → j ≤ p → Unmet (counts_checks n p (header_front n j)) × (number_of (written j) ≡ j)
header_back n p j hn hj h =
    ((refl, (number_good n hn, (not_from_true _ (eq-eqb _ n (number_back n hn)), (number_good j hj, (ap (ltb p) (number_back j hj) ∙ le-ltb p j h, tt {0}))))), number_back j hj)

module _ {G : Type 0} {m : Meaning G} {k : Coding G} (codes : Codes m k 65535) (n p last line : ℕ) (few : n ≤ 1024) (low : p ≤ 4096) (x : Numbered G) (fits : Fitting n p last x) where
  abbrev body : ℕ → ℕ
  body i = get_or x.rule.bodies i 0

  bodies_good : UnmetCalls (body_checks n false (body 0 ∷ body 1 ∷ body 2 ∷ body 3 ∷ []))
  bodies_good =
      let parts = or_parts _ _ (there (not (eqb x.rule.head 0)) _ (not_from_false _ (ne_eqb x.rule.head 0 (omega (arith, fits.head.0)))) fits.formed) in
      let tail = or_parts (body_above n x.rule.bodies) (gap x.rule.bodies) parts.1 in
      subst (λ bs. UnmetCalls (body_checks n false bs)) (four x.rule.bodies fits.bodies) (bodies_unmet n x.rule.bodies tail.0 tail.1)

  small : (v : ℕ) → ltb n v ≡ false → v < 100000
  small v e = omega (arith, ltb-false n v e)

  mark_low : x.mark < 100000
  mark_low = omega (arith, fits.within)

  head_low : x.rule.head < 100000
  head_low = omega (arith, fits.head.1)

  limit : (v : ℕ) → ltb n v ≡ false → ltb n (number_of (written v)) ≡ false
  limit v e = ap (ltb n) (number_back v (small v e)) ∙ e

  order : (v w : ℕ) → ltb n v ≡ false → ltb n w ≡ false → (eqb v 0 && not (eqb w 0)) ≡ false → (eqb (number_of (written v)) 0 && not (eqb (number_of (written w)) 0)) ≡ false
  order v w lv lw e =
      ap (λ (a : ℕ). eqb a 0 && not (eqb (number_of (written w)) 0)) (number_back v (small v lv)) ∙ (ap (λ (a : ℕ). eqb v 0 && not (eqb a 0)) (number_back w (small w lw)) ∙ e)

  pub row_good : Unmet (rule_checks k n p last line (row_front k x))
  row_good =
      let b = bodies_good in
      let l0 = b.0 in
      let l1 = b.1.1.0 in
      let l2 = b.1.1.1.1.0 in
      let l3 = b.1.1.1.1.1.1.0 in
      let above : leb (number_of (written x.mark)) last ≡ false = ap (λ (v : ℕ). leb v last) (number_back x.mark mark_low) ∙ lt-leb x.mark last fits.above in
      let placed : outside p (number_of (written x.mark)) ≡ false = ap (outside p) (number_back x.mark mark_low) ∙ on_inside p x.mark (omega (arith, fits.above), fits.within) in
      let heads : outside n (number_of (written x.rule.head)) ≡ false = ap (outside n) (number_back x.rule.head head_low) ∙ on_inside n x.rule.head fits.head in (
        refl,
        (
          number_good x.mark mark_low,
          (
            placed,
            (
              above,
              (
                number_good x.rule.head head_low,
                (
                  heads,
                  (
                    (form_back x.rule.form).0,
                    (
                      weight_number codes x.rule.weight,
                      (
                        weight_good codes x.rule.weight,
                        (
                          number_good (body 0) (small (body 0) l0),
                          (
                            limit (body 0) l0,
                            (
                              refl,
                              (
                                number_good (body 1) (small (body 1) l1),
                                (
                                  limit (body 1) l1,
                                  (
                                    order (body 0) (body 1) l0 l1 b.1.1.1.0,
                                    (
                                      number_good (body 2) (small (body 2) l2),
                                      (
                                        limit (body 2) l2,
                                        (
                                          order (body 1) (body 2) l1 l2 b.1.1.1.1.1.0,
                                          (number_good (body 3) (small (body 3) l3), (limit (body 3) l3, (order (body 2) (body 3) l2 l3 b.1.1.1.1.1.1.1.0, tt {0}))),
                                        ),
                                      ),
                                    ),
                                  ),
                                ),
                              ),
                            ),
                          ),
                        ),
                      ),
                    ),
                  ),
                ),
              ),
            ),
          ),
        ),
      )

  pub mark_back : number_of (written x.mark) ≡ x.mark
  mark_back = number_back x.mark mark_low

  pub row_back : Alike m (rule_in m k (row_front k x)) x
  row_back =
      let b = bodies_good in
      let e0 = number_back (body 0) (small (body 0) b.0) in
      let e1 = number_back (body 1) (small (body 1) b.1.1.0) in
      let e2 = number_back (body 2) (small (body 2) b.1.1.1.1.0) in
      let e3 = number_back (body 3) (small (body 3) b.1.1.1.1.1.1.0) in
      let same : number_of (written (body 0)) ∷ number_of (written (body 1)) ∷ number_of (written (body 2)) ∷ number_of (written (body 3)) ∷ [] ≡ body 0 ∷ body 1 ∷ body 2 ∷ body 3 ∷ [] = cc (e0, e1, e2, e3) in
      record {
        mark = mark_back;
        head = number_back x.rule.head head_low;
        form = (form_back x.rule.form).1;
        weight = weight_back codes x.rule.weight;
        bodies = same ∙ sym (four x.rule.bodies fits.bodies);
      }
