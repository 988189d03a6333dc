-- What load answers to texts with a fault, and with two. The scale is percent. Assumes nothing.
--     row s                               the line s with its line feed
--     Faulty n p text k layer line column     a load of the text into n statements and p places is refused with the number k, and with that
--                                         layer, line and column
--     WorkedFaults                        a text for each of some faults
--     OrderOfFaults                       which fault comes where a text has several
use Rattle.std.specs.Prelude.{◌≡◌, ℕ, List, [], ◌∷◌, ◌++◌, length, Err, codes, Result}
use Prim.Native.String.{String}
use Rattle.scales.specs.Percents.{percents, percent_coding}
use Rattle.scales.specs.declared.percent.Percent.{Percent}
use Rattle.pasts.specs.Refusals.{number}
use Rattle.pasts.specs.Tables.{Tables, count}
use Rattle.text.specs.Faults.{place, report}
use Rattle.text.specs.Loads.{Loads}
use Rattle.text.specs.declared.faults.Fault.{Fault}
use Rattle.text.specs.declared.faults.Layer.{Layer}
use Rattle.text.specs.declared.faults.Layer.TheVariants.{Field, Line, Board}

abbrev pub row : String → List ℕ
row s = codes s ++ (10 ∷ [])

abbrev pub Faulty : ℕ → ℕ → List ℕ → ℕ → Layer → ℕ → ℕ → Type 0
Faulty n p text k layer line column =
    (t u : Tables Percent) (r : Result ℕ Fault) → count t ≡ n → length t.rules ≡ p → Loads percents percent_coding text t r u
    → (f : Fault) × (r ≡ Err f) × (number (report f).refusal ≡ k) × ((report f).layer ≡ layer) × ((report f).place ≡ place line column)

pub record WorkedFaults : Type 0 where
  pub nothing : Faulty 3 3 [] 10 Line 1 1
  pub leading_zero : Faulty 3 3 (row "B    3   01") 12 Field 1 7
  pub wrong_count : Faulty 3 3 (row "B    2    0") 14 Board 1 2
  pub no_mark : Faulty 3 3 (row "B    3    1" ++ row "R    4    1A   90    2    0    0    0") 4 Board 2 2
  pub no_form : Faulty 3 3 (row "B    3    1" ++ row "R    1    1X   90    2    0    0    0") 11 Field 2 12
  pub no_grade : Faulty 3 3 (row "B    3    1" ++ row "R    1    1A  101    2    0    0    0") 13 Field 2 13
  pub gap : Faulty 3 3 (row "B    3    1" ++ row "R    1    1A   90    0    2    0    0") 7 Board 2 23
  pub bytes_follow : (b : ℕ) → Faulty 3 3 (row "B    3    0" ++ (b ∷ [])) 14 Board 2 1

pub record OrderOfFaults : Type 0 where
  -- the tables come before the text
  pub no_statements : Faulty 0 3 [] 1 Board 0 0
  pub no_places : Faulty 3 0 (row "B    3   01") 1 Board 0 0
  pub many_statements : Faulty 1025 3 [] 1 Board 0 0
  pub many_places : Faulty 3 4097 [] 1 Board 0 0
  -- the first line: that it is there, its letter, the statement count, the rule count
  pub short_before_letter : Faulty 3 3 (row "X") 10 Line 1 1
  pub feed_before_letter : Faulty 3 3 (codes "X    2   01 ") 10 Line 1 1
  pub letter_before_counts : Faulty 3 3 (row "R   02   01") 11 Line 1 1
  pub number_before_count : Faulty 3 3 (row "B   02   01") 12 Field 1 2
  pub statements_before_rules : Faulty 3 3 (row "B    2   01") 14 Board 1 2
  pub count_before_rules : Faulty 3 3 (row "B    3    4") 14 Board 1 7
  -- a rule's line: that it is there, its letter, then its fields from the left
  pub line_wanting : Faulty 3 3 (row "B    3    1") 10 Line 2 1
  pub short_before_rule : Faulty 3 3 (row "B    3    1" ++ row "B    9") 10 Line 2 1
  pub letter_before_mark : Faulty 3 3 (row "B    3    1" ++ row "B    9    1A   90    2    0    0    0") 11 Line 2 1
  pub number_before_mark : Faulty 3 3 (row "B    3    1" ++ row "R   09    1A   90    2    0    0    0") 12 Field 2 2
  pub mark_before_head : Faulty 3 3 (row "B    3    1" ++ row "R    9    9A   90    2    0    0    0") 4 Board 2 2
  pub mark_before_order : Faulty 3 3 (row "B    3    2" ++ row "R    1    1A   90    2    0    0    0" ++ row "R    0    1A   90    2    0    0    0") 4 Board 3 2
  pub same_mark : Faulty 3 3 (row "B    3    2" ++ row "R    1    1A   90    2    0    0    0" ++ row "R    1    1A   90    2    0    0    0") 15 Board 3 2
  pub order_before_head : Faulty 3 3 (row "B    3    2" ++ row "R    2    1A   90    2    0    0    0" ++ row "R    1    9A   90    2    0    0    0") 15 Board 3 2
  pub number_before_head : Faulty 3 3 (row "B    3    1" ++ row "R    1   09X  101    2    0    0    0") 12 Field 2 7
  pub head_before_form : Faulty 3 3 (row "B    3    1" ++ row "R    1    9X  101    2    0    0    0") 3 Board 2 7
  pub no_head : Faulty 3 3 (row "B    3    1" ++ row "R    1    0X  101    2    0    0    0") 3 Board 2 7
  pub form_before_weight : Faulty 3 3 (row "B    3    1" ++ row "R    1    1X  101    9    0    0    0") 11 Field 2 12
  pub number_before_grade : Faulty 3 3 (row "B    3    1" ++ row "R    1    1A 0101    9    0    0    0") 12 Field 2 13
  pub weight_before_body : Faulty 3 3 (row "B    3    1" ++ row "R    1    1A  101    9    0    0    0") 13 Field 2 13
  pub number_before_body : Faulty 3 3 (row "B    3    1" ++ row "R    1    1A   90    0   09    0    0") 12 Field 2 23
  pub body_before_gap : Faulty 3 3 (row "B    3    1" ++ row "R    1    1A   90    0    9    0    0") 3 Board 2 23
  pub left_body_first : Faulty 3 3 (row "B    3    1" ++ row "R    1    1A   90    0    2    9    0") 7 Board 2 23
  pub first_body : Faulty 3 3 (row "B    3    1" ++ row "R    1    1A   90    4    0    0    4") 3 Board 2 18
  pub third_body : Faulty 3 3 (row "B    3    1" ++ row "R    1    1A   90    3    0    1    4") 7 Board 2 28
  pub last_body : Faulty 3 3 (row "B    3    1" ++ row "R    1    1A   90    1    2    3    4") 3 Board 2 33
  -- one line after the other, and bytes that follow at the end
  pub first_line_first : Faulty 3 3 (row "B    3    4" ++ row "R    9    1A   90    2    0    0    0") 14 Board 1 7
  pub upper_line_first : Faulty 3 3 (row "B    3    2" ++ row "R    1    9A   90    2    0    0    0" ++ row "R    9    1A   90    2    0    0    0") 3 Board 2 7
  pub line_before_wanting : Faulty 3 3 (row "B    3    2" ++ row "R    1    1A   90    2    0    0    4") 3 Board 2 33
  pub line_before_bytes : Faulty 3 3 (row "B    3    1" ++ row "R    1    1A   90    0    0    0    4" ++ (32 ∷ [])) 3 Board 2 33
