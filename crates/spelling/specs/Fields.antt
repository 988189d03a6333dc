-- The fields of a script's line. Assumes nothing.
--     then r f            what f makes of the value of r, or r's fault
--     from o e            the value of o, or the fault e where there is none
--     end line            the line has no more words
--     number_to_limit w   the number that the word w spells, and 65,535 for every larger one
--     only line           the same of the line's one word
--     reading w           the number, at most 65,535
--     grade c w           the grade whose code w spells
--     form w              the form whose letter w is
use Rattle.std.specs.Prelude.{ℕ, cond, List, length, Some, None, Ok, Err, Option, Result, ◌==◌, nat_lt, slice_index}
use Rattle.plaintext.specs.Bytes.{first_word, after_word, all_blank}
use Rattle.plaintext.specs.Numbers.{decimal, small}
use Rattle.scales.specs.Codes.{Coding}
use Rattle.model.specs.Letters.{spelled_by}
use Rattle.model.specs.declared.rule.Form.{Form}
use Rattle.spelling.specs.declared.fields.Expected.{Expected}
use Rattle.spelling.specs.declared.fields.Expected.TheVariants.{LineEnd, Number, Reading, GradeCode, FormLetter}

abbrev pub then : {A B : Type 0} → Result A Expected → (A → Result B Expected) → Result B Expected
then (Ok a) f = f a
then (Err e) f = Err e

abbrev pub from : {A : Type 0} → Option A → Expected → Result A Expected
from None e = Err e
from (Some a) e = Ok a

abbrev pub end : List ℕ → Result (Unit {0}) Expected
end line = cond (all_blank line) (Ok tt) (Err LineEnd)

abbrev pub limited : Option ℕ → Result ℕ Expected
limited None = Err Number
limited (Some n) = Ok (cond (nat_lt n 65536) n 65535)

abbrev pub number_to_limit : List ℕ → Result ℕ Expected
number_to_limit w = limited (decimal w)

abbrev pub only : List ℕ → Result ℕ Expected
only line = then (end (after_word line)) (λ _. number_to_limit (first_word line))

abbrev pub reading : List ℕ → Result ℕ Expected
reading w = from (small (decimal w)) Reading

module _ {G : Type 0} (c : Coding G) where
  abbrev pub decoded : Option ℕ → Option G
  decoded None = None
  decoded (Some n) = c.decode n

  abbrev pub grade : List ℕ → Result G Expected
  grade w = from (decoded (small (decimal w))) GradeCode

abbrev pub form : List ℕ → Result Form Expected
form w = cond (length w == 1) (from (spelled_by (slice_index w 0)) FormLetter) (Err FormLetter)
