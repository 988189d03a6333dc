-- How a collection of rules is spelled. Assumes nothing.
--     header_front n k, row_front c x     the first line of a text, and the line of the rule x, before the line feed
--     row_bytes c x                       the line of the rule x
--     spelling c n xs                     the text of the rules xs over n statements
use Rattle.std.specs.Prelude.{ℕ, List, [], ◌∷◌, ◌++◌, length, slice_index}
use Rattle.std.specs.List.{flat_map}
use Rattle.scales.specs.Codes.{Coding}
use Rattle.model.specs.Letters.{letter}
use Rattle.text.specs.Decimal.{written}
use Rattle.text.specs.declared.numbered.Numbered.{Numbered}

abbrev pub header_front : ℕ → ℕ → List ℕ
header_front n k = (66 ∷ []) ++ written n ++ written k

module _ {G : Type 0} (c : Coding G) where
  abbrev pub row_front : Numbered G → List ℕ
  row_front x =
      (82 ∷ []) ++ written x.mark ++ written x.rule.head ++ (letter x.rule.form ∷ []) ++ written (c.code x.rule.weight)
      ++ written (slice_index x.rule.bodies 0) ++ written (slice_index x.rule.bodies 1) ++ written (slice_index x.rule.bodies 2) ++ written (slice_index x.rule.bodies 3)

  abbrev pub row_bytes : Numbered G → List ℕ
  row_bytes x = row_front x ++ (10 ∷ [])

  abbrev pub spelling : ℕ → List (Numbered G) → List ℕ
  spelling n xs = header_front n (length xs) ++ (10 ∷ []) ++ flat_map row_bytes xs
