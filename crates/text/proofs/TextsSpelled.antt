-- A text that passes all checks is the spelling of the rules that it says, which fit the board.
use Rattle.std.proofs.Common.{◌≡◌, ℕ, zero, suc, ◌+◌, ◌<◌, false, not, eqb, leb, List, [], ◌∷◌, ◌++◌, length, get_or, take, drop, sym, refl, ap, ◌∙◌, arith}
use Rattle.std.specs.List.{flat_map}
use Rattle.std.proofs.lemmas.List.{take-append-drop, drop_more, append_assoc, length-take-le, nil_from_length}
use Rattle.std.proofs.lemmas.Bool.{eqb-true, leb-false, not-false, or_parts}
use Rattle.scales.specs.Meaning.{Meaning}
use Rattle.scales.specs.Codes.{Coding, Codes}
use Rattle.model.specs.Least.{On}
use Rattle.pasts.specs.Refusals.{outside}
use Rattle.pasts.proofs.Checked.{inside_on}
use Rattle.text.specs.Boards.{Fits, Decoded}
use Rattle.text.specs.Faults.{Unmet}
use Rattle.text.specs.Lines.{cut}
use Rattle.text.specs.Rows.{number_in, rule_in, rules_in, rules_of, rule_count, row_checks, rows_checks, header_checks, text_checks}
use Rattle.text.specs.Spelling.{row_bytes, header_front, spelling}
use Rattle.text.proofs.Judged.{unmet_parts}
use Rattle.text.proofs.RowsSpelled.{row_spelled, row_fits, row_decoded, header_spelled}

-- a line that is there, its line feed, and what follows
module _ (width : ℕ) (rest : List ℕ) (whole : cut width rest ≡ false) where
  parts : (leb (length rest) width ≡ false) × (not (eqb (get_or rest width 0) 10) ≡ false)
  parts = or_parts (leb (length rest) width) (not (eqb (get_or rest width 0) 10)) whole

  long : width < length rest
  long = leb-false (length rest) width parts.0

  pub line_width : length (take width rest) ≡ width
  line_width = length-take-le width rest (omega (arith, long))

  pub line_first : rest ≡ take width rest ++ (10 ∷ []) ++ drop (width + 1) rest
  line_first =
      let feed : get_or rest width 0 ≡ 10 = eqb-true _ 10 (not-false _ parts.1) in
      sym (take-append-drop width rest) ∙ (ap (λ l. take width rest ++ l) (drop_more rest width 0 long ∙ ap (λ b. b ∷ drop (width + 1) rest) feed) ∙ sym (append_assoc (take width rest) (10 ∷ []) (drop (width + 1) rest)))

module _ {G : Type 0} {m : Meaning G} {k : Coding G} (codes : Codes m k 65535) (n p : ℕ) where
  pub rows_length : (j : ℕ) (rest : List ℕ) → length (rules_in m k j rest) ≡ j
  rows_length zero rest = refl
  rows_length (suc j) rest = ap suc (rows_length j (drop 38 rest))

  pub rows_spelled : (last line j : ℕ) (rest : List ℕ) → Unmet (rows_checks k n p last line j rest) → rest ≡ flat_map (row_bytes k) (rules_in m k j rest)
  rows_spelled last line zero rest u = nil_from_length rest (eqb-true _ 0 (not-false _ u.0))
  rows_spelled last line (suc j) rest u =
      let v = unmet_parts (row_checks k n p last line rest) (rows_checks k n p (number_in (take 37 rest) 2) (line + 1) j (drop 38 rest)) u in
      let row = row_spelled codes n p last line (take 37 rest) (line_width 37 rest v.0.0) v.0.1 in
      let more = rows_spelled (number_in (take 37 rest) 2) (line + 1) j (drop 38 rest) v.1 in
      line_first 37 rest v.0.0 ∙ (ap (λ l. l ++ (10 ∷ []) ++ drop 38 rest) row ∙ ap (λ l. row_bytes k (rule_in m k (take 37 rest)) ++ l) more)

  pub rows_fit : (last line j : ℕ) (rest : List ℕ) → Unmet (rows_checks k n p last line j rest) → Fits n p last (rules_in m k j rest)
  rows_fit last line zero rest u = tt
  rows_fit last line (suc j) rest u =
      let v = unmet_parts (row_checks k n p last line rest) (rows_checks k n p (number_in (take 37 rest) 2) (line + 1) j (drop 38 rest)) u in
      (row_fits codes n p last line (take 37 rest) (line_width 37 rest v.0.0) v.0.1, rows_fit (number_in (take 37 rest) 2) (line + 1) j (drop 38 rest) v.1)

  pub rows_decoded : (last line j : ℕ) (rest : List ℕ) → Unmet (rows_checks k n p last line j rest) → Decoded k (rules_in m k j rest)
  rows_decoded last line zero rest u = tt
  rows_decoded last line (suc j) rest u =
      let v = unmet_parts (row_checks k n p last line rest) (rows_checks k n p (number_in (take 37 rest) 2) (line + 1) j (drop 38 rest)) u in
      (row_decoded codes n p last line (take 37 rest) (line_width 37 rest v.0.0) v.0.1, rows_decoded (number_in (take 37 rest) 2) (line + 1) j (drop 38 rest) v.1)

  module _ (text : List ℕ) (u : Unmet (text_checks k n p text)) where
    halves : Unmet (header_checks n p text) × Unmet (rows_checks k n p 0 2 (rule_count text) (drop 12 text))
    halves = unmet_parts (header_checks n p text) (rows_checks k n p 0 2 (rule_count text) (drop 12 text)) u.1

    pub text_within : On 1024 n × On 4096 p
    text_within = let q = or_parts (outside 1024 n) (outside 4096 p) u.0 in (inside_on 1024 n q.0, inside_on 4096 p q.1)

    pub text_fits : Fits n p 0 (rules_of m k text)
    text_fits = rows_fit 0 2 (rule_count text) (drop 12 text) halves.1

    pub text_decoded : Decoded k (rules_of m k text)
    text_decoded = rows_decoded 0 2 (rule_count text) (drop 12 text) halves.1

    pub text_spelled : text ≡ spelling k n (rules_of m k text)
    text_spelled =
        let h = halves.0 in
        let head = header_spelled n p (take 11 text) (line_width 11 text h.0) h.1 in
        line_first 11 text h.0
        ∙ (ap (λ l. l ++ (10 ∷ []) ++ drop 12 text) (head ∙ ap (header_front n) (sym (rows_length (rule_count text) (drop 12 text))))
        ∙ ap (λ l. header_front n (length (rules_of m k text)) ++ (10 ∷ []) ++ l) (rows_spelled 0 2 (rule_count text) (drop 12 text) halves.1))
