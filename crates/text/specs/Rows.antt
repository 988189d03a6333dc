-- The lines of a board text over n statements and p places: what each says, and what is checked of it, in order. Assumes nothing.
--     five column bytes           the five columns of a line that begin at the column
--     number_in bytes column      the number that they spell
--     whole_check width line rest     the line is there, with its line feed
--     due_check letter line bytes     column 1 is the due letter
--     count_checks, mark_checks, head_checks, body_checks     of a number: first its field, then what the board asks of it
--     header_checks n p text      what is checked of the first line
--     rule_in m c bytes           the rule that a line says, with its mark
--     rule_checks .. last line bytes  what is checked of a rule's line after one with the mark last
--     rules_in m c k rest         the rules of the k lines at the front of what is left of a text
--     rows_checks .. last line k rest     what is checked of those lines, and that nothing follows them
--     rule_count text, rules_of m c text  the rule count of a text's first line, and the rules of the lines after it
--     text_checks c n p text      all that is checked of a text, in order
use Rattle.std.specs.Prelude.{ℕ, zero, suc, ◌+◌, ◌-◌, Bool, false, not, ◌&&◌, ◌||◌, List, [], ◌∷◌, ◌++◌, length, take, drop, ◌==◌, nat_le, nat_lt, slice_index}
use Rattle.scales.specs.Meaning.{Meaning}
use Rattle.scales.specs.Codes.{Coding}
use Rattle.pasts.specs.Refusals.{outside}
use Rattle.pasts.specs.declared.refusal.Refusal.TheVariants.{TableLength, NoSuchStatement, NoSuchMark, BodyAfterAbsent, LineShort, Letter, Count, MarkOrder}
use Rattle.text.specs.Faults.{Check, check, of_line, of_board, at_no_place}
use Rattle.text.specs.Fields.{number_of, number_checks, form_of, form_checks, weight_of, weight_checks}
use Rattle.text.specs.Lines.{cut}
use Rattle.text.specs.declared.numbered.Numbered.{Numbered}

abbrev pub five : ℕ → List ℕ → List ℕ
five column bytes = take 5 (drop (column - 1) bytes)

abbrev pub number_in : List ℕ → ℕ → ℕ
number_in bytes column = number_of (five column bytes)

abbrev pub due_check : ℕ → ℕ → List ℕ → Check
due_check letter line bytes = check (of_line Letter line 1) (not (slice_index bytes 0 == letter))

-- a count, of the first line
abbrev pub count_checks : ℕ → Bool → List ℕ → List Check
count_checks column bad bytes = number_checks (five column bytes) 1 column ++ (check (of_board Count 1 column) bad ∷ [])

abbrev pub mark_limits : ℕ → ℕ → ℕ → ℕ → List Check
mark_limits p last line mark = check (of_board NoSuchMark line 2) (outside p mark) ∷ check (of_board MarkOrder line 2) (nat_le mark last) ∷ []

abbrev pub mark_checks : ℕ → ℕ → ℕ → List ℕ → List Check
mark_checks p last line bytes = number_checks (five 2 bytes) line 2 ++ mark_limits p last line (number_in bytes 2)

abbrev pub head_limits : ℕ → ℕ → ℕ → List Check
head_limits n line head = check (of_board NoSuchStatement line 7) (outside n head) ∷ []

abbrev pub head_checks : ℕ → ℕ → List ℕ → List Check
head_checks n line bytes = number_checks (five 7 bytes) line 7 ++ head_limits n line (number_in bytes 7)

abbrev pub body_limits : ℕ → ℕ → ℕ → Bool → ℕ → List Check
body_limits n line column absent body =
    check (of_board NoSuchStatement line column) (nat_lt n body) ∷ check (of_board BodyAfterAbsent line column) (absent && not (body == 0)) ∷ []

-- a body, where `absent` says that the one before it is absent
abbrev pub body_checks : ℕ → ℕ → ℕ → Bool → List ℕ → List Check
body_checks n line column absent bytes = number_checks (five column bytes) line column ++ body_limits n line column absent (number_in bytes column)

abbrev pub bodies_checks : ℕ → ℕ → List ℕ → List Check
bodies_checks n line bytes =
    body_checks n line 18 false bytes ++ (body_checks n line 23 (number_in bytes 18 == 0) bytes ++ (body_checks n line 28 (number_in bytes 23 == 0) bytes ++ body_checks n line 33 (number_in bytes 28 == 0) bytes))

abbrev pub bodies_in : List ℕ → List ℕ
bodies_in bytes = number_in bytes 18 ∷ number_in bytes 23 ∷ number_in bytes 28 ∷ number_in bytes 33 ∷ []

-- the line of that width is there
abbrev pub whole_check : ℕ → ℕ → List ℕ → Check
whole_check width line rest = check (of_line LineShort line 1) (cut width rest)

abbrev pub counts_checks : ℕ → ℕ → List ℕ → List Check
counts_checks n p bytes =
    due_check 66 1 bytes ∷ (count_checks 2 (not (number_in bytes 2 == n)) bytes ++ count_checks 7 (nat_lt p (number_in bytes 7)) bytes)

abbrev pub header_checks : ℕ → ℕ → List ℕ → List Check
header_checks n p text = whole_check 11 1 text ∷ counts_checks n p (take 11 text)

abbrev pub rule_count : List ℕ → ℕ
rule_count text = number_in (take 11 text) 7

module _ {G : Type 0} (m : Meaning G) (c : Coding G) where
  abbrev pub rule_in : List ℕ → Numbered G
  rule_in bytes = record {
    mark = number_in bytes 2;
    rule = record { head = number_in bytes 7; form = form_of (slice_index bytes 11); weight = weight_of m c (five 13 bytes); bodies = bodies_in bytes };
  }

  abbrev pub rules_in : ℕ → List ℕ → List (Numbered G)
  rules_in zero rest = []
  rules_in (suc k) rest = rule_in (take 37 rest) ∷ rules_in k (drop 38 rest)

  abbrev pub rules_of : List ℕ → List (Numbered G)
  rules_of text = rules_in (rule_count text) (drop 12 text)

module _ {G : Type 0} (c : Coding G) (n p : ℕ) where
  abbrev pub rule_checks : ℕ → ℕ → List ℕ → List Check
  rule_checks last line bytes =
      due_check 82 line bytes ∷ (mark_checks p last line bytes ++ (head_checks n line bytes ++ (form_checks (slice_index bytes 11) line 12 ++ (weight_checks c (five 13 bytes) line 13 ++ bodies_checks n line bytes))))

  abbrev pub row_checks : ℕ → ℕ → List ℕ → List Check
  row_checks last line rest = whole_check 37 line rest ∷ rule_checks last line (take 37 rest)

  abbrev pub rows_checks : ℕ → ℕ → ℕ → List ℕ → List Check
  rows_checks last line zero rest = check (of_board Count line 1) (not (length rest == 0)) ∷ []
  rows_checks last line (suc k) rest = row_checks last line rest ++ rows_checks (number_in (take 37 rest) 2) (line + 1) k (drop 38 rest)

  abbrev pub text_checks : List ℕ → List Check
  text_checks text =
      check (at_no_place TableLength) (outside 1024 n || outside 4096 p) ∷ (header_checks n p text ++ rows_checks 0 2 (rule_count text) (drop 12 text))
