-- The worked faults, by computing.
use Rattle.std.proofs.Common.{◌≡◌, ℕ, List, [], ◌∷◌, ◌++◌, length, Err, codes, refl, ap, ◌∙◌}
use Rattle.scales.specs.Percents.{percent_coding}
use Rattle.pasts.specs.Refusals.{number}
use Rattle.pasts.specs.declared.refusal.Refusal.TheVariants.{TableLength, NoSuchStatement, NoSuchMark, BodyAfterAbsent, LineShort, Letter, Field as NoNumber, WeightCode, Count, MarkOrder}
use Rattle.text.specs.Faults.{judged, report, of_board, of_line, in_field}
use Rattle.text.specs.Rows.{rule_count, text_checks}
use Rattle.text.specs.WorkedFaults.{row, Faulty, WorkedFaults, OrderOfFaults}
use Rattle.text.specs.declared.faults.Fault.{Fault}

-- a load answers what the checks say
faulty : (n p : ℕ) (text : List ℕ) (f : Fault) → judged (text_checks percent_coding n p text) (rule_count text) ≡ Err f → Faulty n p text (number (report f).refusal) (report f).layer (report f).place.line (report f).place.column
faulty n p text f e t u r en ep l = (
  f,
  l.answer ∙ (ap (λ (i : ℕ). judged (text_checks percent_coding i (length t.rules) text) (rule_count text)) en ∙ (ap (λ (i : ℕ). judged (text_checks percent_coding n i text) (rule_count text)) ep ∙ e)),
  refl,
  refl,
  refl,
)

pub worked_faults : WorkedFaults
worked_faults = record {
  nothing = faulty 3 3 [] (of_line LineShort 1 1) refl;
  leading_zero = faulty 3 3 (row "B    3   01") (in_field NoNumber 1 7) refl;
  wrong_count = faulty 3 3 (row "B    2    0") (of_board Count 1 2) refl;
  no_mark = faulty 3 3 (row "B    3    1" ++ row "R    4    1A   90    2    0    0    0") (of_board NoSuchMark 2 2) refl;
  no_form = faulty 3 3 (row "B    3    1" ++ row "R    1    1X   90    2    0    0    0") (in_field Letter 2 12) refl;
  no_grade = faulty 3 3 (row "B    3    1" ++ row "R    1    1A  101    2    0    0    0") (in_field WeightCode 2 13) refl;
  gap = faulty 3 3 (row "B    3    1" ++ row "R    1    1A   90    0    2    0    0") (of_board BodyAfterAbsent 2 23) refl;
  bytes_follow = λ b. faulty 3 3 (row "B    3    0" ++ (b ∷ [])) (of_board Count 2 1) refl;
}

pub order_of_faults : OrderOfFaults
order_of_faults = record {
  no_statements = faulty 0 3 [] (of_board TableLength 0 0) refl;
  no_places = faulty 3 0 (row "B    3   01") (of_board TableLength 0 0) refl;
  many_statements = faulty 1025 3 [] (of_board TableLength 0 0) refl;
  many_places = faulty 3 4097 [] (of_board TableLength 0 0) refl;
  short_before_letter = faulty 3 3 (row "X") (of_line LineShort 1 1) refl;
  feed_before_letter = faulty 3 3 (codes "X    2   01 ") (of_line LineShort 1 1) refl;
  letter_before_counts = faulty 3 3 (row "R   02   01") (of_line Letter 1 1) refl;
  number_before_count = faulty 3 3 (row "B   02   01") (in_field NoNumber 1 2) refl;
  statements_before_rules = faulty 3 3 (row "B    2   01") (of_board Count 1 2) refl;
  count_before_rules = faulty 3 3 (row "B    3    4") (of_board Count 1 7) refl;
  line_wanting = faulty 3 3 (row "B    3    1") (of_line LineShort 2 1) refl;
  short_before_rule = faulty 3 3 (row "B    3    1" ++ row "B    9") (of_line LineShort 2 1) refl;
  letter_before_mark = faulty 3 3 (row "B    3    1" ++ row "B    9    1A   90    2    0    0    0") (of_line Letter 2 1) refl;
  number_before_mark = faulty 3 3 (row "B    3    1" ++ row "R   09    1A   90    2    0    0    0") (in_field NoNumber 2 2) refl;
  mark_before_head = faulty 3 3 (row "B    3    1" ++ row "R    9    9A   90    2    0    0    0") (of_board NoSuchMark 2 2) refl;
  mark_before_order = faulty 3 3 (row "B    3    2" ++ row "R    1    1A   90    2    0    0    0" ++ row "R    0    1A   90    2    0    0    0") (of_board NoSuchMark 3 2) refl;
  same_mark = faulty 3 3 (row "B    3    2" ++ row "R    1    1A   90    2    0    0    0" ++ row "R    1    1A   90    2    0    0    0") (of_board MarkOrder 3 2) refl;
  order_before_head = faulty 3 3 (row "B    3    2" ++ row "R    2    1A   90    2    0    0    0" ++ row "R    1    9A   90    2    0    0    0") (of_board MarkOrder 3 2) refl;
  number_before_head = faulty 3 3 (row "B    3    1" ++ row "R    1   09X  101    2    0    0    0") (in_field NoNumber 2 7) refl;
  head_before_form = faulty 3 3 (row "B    3    1" ++ row "R    1    9X  101    2    0    0    0") (of_board NoSuchStatement 2 7) refl;
  no_head = faulty 3 3 (row "B    3    1" ++ row "R    1    0X  101    2    0    0    0") (of_board NoSuchStatement 2 7) refl;
  form_before_weight = faulty 3 3 (row "B    3    1" ++ row "R    1    1X  101    9    0    0    0") (in_field Letter 2 12) refl;
  number_before_grade = faulty 3 3 (row "B    3    1" ++ row "R    1    1A 0101    9    0    0    0") (in_field NoNumber 2 13) refl;
  weight_before_body = faulty 3 3 (row "B    3    1" ++ row "R    1    1A  101    9    0    0    0") (in_field WeightCode 2 13) refl;
  number_before_body = faulty 3 3 (row "B    3    1" ++ row "R    1    1A   90    0   09    0    0") (in_field NoNumber 2 23) refl;
  body_before_gap = faulty 3 3 (row "B    3    1" ++ row "R    1    1A   90    0    9    0    0") (of_board NoSuchStatement 2 23) refl;
  left_body_first = faulty 3 3 (row "B    3    1" ++ row "R    1    1A   90    0    2    9    0") (of_board BodyAfterAbsent 2 23) refl;
  first_body = faulty 3 3 (row "B    3    1" ++ row "R    1    1A   90    4    0    0    4") (of_board NoSuchStatement 2 18) refl;
  third_body = faulty 3 3 (row "B    3    1" ++ row "R    1    1A   90    3    0    1    4") (of_board BodyAfterAbsent 2 28) refl;
  last_body = faulty 3 3 (row "B    3    1" ++ row "R    1    1A   90    1    2    3    4") (of_board NoSuchStatement 2 33) refl;
  first_line_first = faulty 3 3 (row "B    3    4" ++ row "R    9    1A   90    2    0    0    0") (of_board Count 1 7) refl;
  upper_line_first = faulty 3 3 (row "B    3    2" ++ row "R    1    9A   90    2    0    0    0" ++ row "R    9    1A   90    2    0    0    0") (of_board NoSuchStatement 2 7) refl;
  line_before_wanting = faulty 3 3 (row "B    3    2" ++ row "R    1    1A   90    2    0    0    4") (of_board NoSuchStatement 2 33) refl;
  line_before_bytes = faulty 3 3 (row "B    3    1" ++ row "R    1    1A   90    0    0    0    4" ++ (32 ∷ [])) (of_board NoSuchStatement 2 33) refl;
}
