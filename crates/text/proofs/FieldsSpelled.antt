-- What the checks of a field let through is a spelling, and the only one.
use Rattle.std.proofs.Common.{◌≡◌, ℕ, ◌+◌, ◌-◌, ◌<◌, ◌≤◌, Bool, true, false, cond, not, eqb, List, length, drop, is_some, Some, None, Option, unwrap_or, refl, ap, ◌∙◌, arith}
use Rattle.std.proofs.lemmas.List.{length-take-le, length-drop}
use Rattle.std.proofs.lemmas.Bool.{true≢false, eqb-true}
use Rattle.scales.specs.Meaning.{Meaning, Same}
use Rattle.scales.specs.Codes.{Coding, Codes}
use Rattle.model.specs.Letters.{letter, spelled_by}
use Rattle.model.specs.declared.rule.Form.{Form}
use Rattle.model.specs.declared.rule.Form.TheVariants.{All, Any, Chain}
use Rattle.text.specs.Decimal.{parsed, written}
use Rattle.text.specs.Fields.{number_of, form_of, weight_of}
use Rattle.text.specs.Rows.{five, number_in}
use Rattle.text.proofs.Numbers.{one_spelling, reads_back}

some_of : (o : Option ℕ) → not (is_some o) ≡ false → o ≡ Some (unwrap_or o 0)
some_of (Some v) e = refl
some_of None e = absurd (true≢false e)

module _ (bytes : List ℕ) (column : ℕ) (room : column - 1 + 5 ≤ length bytes) (good : not (is_some (parsed (five column bytes))) ≡ false) where
  pub number_spelled : (number_in bytes column < 100000) × (five column bytes ≡ written (number_in bytes column))
  number_spelled =
      one_spelling (five column bytes) (number_in bytes column) (length-take-le 5 (drop (column - 1) bytes) (simp length-drop (omega arith))) (some_of (parsed (five column bytes)) good)

  pub five_spelled : five column bytes ≡ written (number_in bytes column)
  five_spelled = number_spelled.1

form_by : (b : ℕ) (x y z : Bool) → (x ≡ true → b ≡ 65) → (y ≡ true → b ≡ 79) → (z ≡ true → b ≡ 76) → not (is_some (cond x (Some All) (cond y (Some Any) (cond z (Some Chain) None)))) ≡ false → b ≡ letter (unwrap_or (cond x (Some All) (cond y (Some Any) (cond z (Some Chain) None))) All)
form_by b true y z p q r e = p refl
form_by b false true z p q r e = q refl
form_by b false false true p q r e = r refl
form_by b false false false p q r e = absurd (true≢false e)

pub form_spelled : (b : ℕ) → not (is_some (spelled_by b)) ≡ false → b ≡ letter (form_of b)
form_spelled b e = form_by b (eqb b 65) (eqb b 79) (eqb b 76) (eqb-true b 65) (eqb-true b 79) (eqb-true b 76) e

pub form_back : (f : Form) → (not (is_some (spelled_by (letter f))) ≡ false) × (form_of (letter f) ≡ f)
form_back All = (refl, refl)
form_back Any = (refl, refl)
form_back Chain = (refl, refl)

-- a number that is written is read
module _ (v : ℕ) (low : v < 100000) where
  pub number_good : not (is_some (parsed (written v))) ≡ false
  number_good = ap (λ o. not (is_some o)) (reads_back v low)

  pub number_back : number_of (written v) ≡ v
  number_back = ap (λ o. unwrap_or o 0) (reads_back v low)

module _ {G : Type 0} {m : Meaning G} {k : Coding G} (codes : Codes m k 65535) where
  weight_by : (n : ℕ) (o : Option G) → k.decode n ≡ o → not (is_some o) ≡ false → k.code (unwrap_or o m.lowest) ≡ n
  weight_by n (Some g) e s = codes.encodes n g e
  weight_by n None e s = absurd (true≢false s)

  -- a weight that is read has the code that it was read from
  pub weight_spelled : (field : List ℕ) → not (is_some (k.decode (number_of field))) ≡ false → k.code (weight_of m k field) ≡ number_of field
  weight_spelled field e = weight_by (number_of field) (k.decode (number_of field)) refl e

  some_weight : (o : Option G) → not (is_some o) ≡ false → o ≡ Some (unwrap_or o m.lowest)
  some_weight (Some g) e = refl
  some_weight None e = absurd (true≢false e)

  -- and is what its code decodes to
  pub weight_decoded : (field : List ℕ) → not (is_some (k.decode (number_of field))) ≡ false → k.decode (k.code (weight_of m k field)) ≡ Some (weight_of m k field)
  weight_decoded field e = ap k.decode (weight_spelled field e) ∙ some_weight (k.decode (number_of field)) e

  code_low : (g : G) → k.code g < 100000
  code_low g = omega (arith, codes.code_bound g)

  pub weight_number : (g : G) → not (is_some (parsed (written (k.code g)))) ≡ false
  weight_number g = number_good (k.code g) (code_low g)

  read_is : (g : G) → k.decode (number_of (written (k.code g))) ≡ Some (codes.decodes g).0
  read_is g = ap k.decode (number_back (k.code g) (code_low g)) ∙ (codes.decodes g).1

  pub weight_good : (g : G) → not (is_some (k.decode (number_of (written (k.code g))))) ≡ false
  weight_good g = ap (λ o. not (is_some o)) (read_is g)

  pub weight_back : (g : G) → Same m (weight_of m k (written (k.code g))) g
  weight_back g = ap (λ o. m.stands (unwrap_or o m.lowest)) (read_is g) ∙ (codes.decodes g).2
