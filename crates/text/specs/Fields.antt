-- What the fields of a line say, and what is checked of them. Assumes nothing.
--     number_of field             the number that the columns spell, or 0
--     form_of letter              the form that the letter spells, or all
--     weight_of m c field         the grade whose code the columns spell, or the lowest
-- Each has its checks, for a field that begins at a line and a column: a fault where there is no such number, form or grade.
use Rattle.std.specs.Prelude.{ℕ, not, List, [], ◌∷◌, is_some}
use Rattle.std.specs.Option.{unwrap_or}
use Rattle.scales.specs.Meaning.{Meaning}
use Rattle.scales.specs.Codes.{Coding}
use Rattle.model.specs.Letters.{spelled_by}
use Rattle.model.specs.declared.rule.Form.{Form}
use Rattle.model.specs.declared.rule.Form.TheVariants.{All}
use Rattle.pasts.specs.declared.refusal.Refusal.TheVariants.{Field, Letter, WeightCode}
use Rattle.text.specs.Decimal.{parsed}
use Rattle.text.specs.Faults.{Check, check, in_field}

abbrev pub number_of : List ℕ → ℕ
number_of field = unwrap_or (parsed field) 0

abbrev pub number_checks : List ℕ → ℕ → ℕ → List Check
number_checks field line column = check (in_field Field line column) (not (is_some (parsed field))) ∷ []

abbrev pub form_of : ℕ → Form
form_of letter = unwrap_or (spelled_by letter) All

abbrev pub form_checks : ℕ → ℕ → ℕ → List Check
form_checks letter line column = check (in_field Letter line column) (not (is_some (spelled_by letter))) ∷ []

module _ {G : Type 0} where
  abbrev pub weight_of : Meaning G → Coding G → List ℕ → G
  weight_of m c field = unwrap_or (c.decode (number_of field)) m.lowest

  abbrev pub weight_checks : Coding G → List ℕ → ℕ → ℕ → List Check
  weight_checks c field line column =
      check (in_field Field line column) (not (is_some (parsed field))) ∷ check (in_field WeightCode line column) (not (is_some (c.decode (number_of field)))) ∷ []
