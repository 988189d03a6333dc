-- The fault of a refused load is a row of the table of refusals.
use Rattle.std.proofs.Common.{◌≡◌, ℕ, zero, suc, ◌+◌, ◌-◌, ◌*◌, ◌<◌, ◌≤◌, true, false, not, eqb, leb, ◌⊎◌, List, ◌++◌, length, get_or, take, drop, is_some, sym, refl, ap, ◌∙◌, subst, inl, inr, arith}
use Rattle.std.proofs.lemmas.List.{drop-drop}
use Rattle.std.proofs.lemmas.Bool.{both_ways, not-true, ltb-true, leb-true, eqb-true, eqb-false, and_parts, or_cases, or_from, false≢true}
use Rattle.scales.specs.Meaning.{Meaning}
use Rattle.scales.specs.Codes.{Coding, Codes}
use Rattle.model.specs.Least.{On}
use Rattle.model.specs.Letters.{letter, spelled_by}
use Rattle.model.specs.Pins.{OneOf, first, later}
use Rattle.model.specs.declared.rule.Form.{Form}
use Rattle.pasts.specs.Refusals.{number, outside}
use Rattle.pasts.specs.Tables.{count}
use Rattle.pasts.proofs.Checked.{on_inside, inside_on}
use Rattle.text.specs.Decimal.{parsed}
use Rattle.text.specs.FaultRows.{Spells, Short, first_line, at_line, rule_line, Due, numbers, bodies, FaultRow, table_length, no_head, no_body, no_mark, body_gap, first_short, rule_short, first_letter, rule_letter, no_form, first_number, rule_number, no_grade, wrong_count, many_rules, bytes_follow, mark_order, FaultsAreRows}
use Rattle.text.specs.Faults.{Check}
use Rattle.text.specs.Lines.{cut}
use Rattle.text.specs.Rows.{number_in, header_checks, rule_checks, row_checks, rows_checks, rule_count, text_checks, body_checks, bodies_checks}
use Rattle.text.specs.declared.faults.Layer.TheVariants.{Board}
use Rattle.text.specs.declared.faults.Report.{Report}
use Rattle.text.proofs.EachCheck.{Each, each_both, until_first}
use Rattle.text.proofs.FieldsSpelled.{number_spelled, form_back}
use Rattle.text.proofs.Numbers.{reads_back}
use Rattle.text.proofs.TextsSpelled.{line_width}

-- a number field
module _ (bytes : List ℕ) (column : ℕ) where
  pub no_number : not (is_some (parsed (take 5 (drop (column - 1) bytes)))) ≡ true → (v : ℕ) → Spells bytes column v → ⊥
  no_number e v s =
      both_ways _ (ap (λ (l : List ℕ). not (is_some (parsed l))) s.1 ∙ ap (λ o. not (is_some o)) (reads_back v s.0)) e

short_by : (width : ℕ) (rest : List ℕ) → cut width rest ≡ true → Short width rest
short_by width rest e =
    elim (or_cases (leb (length rest) width) (not (eqb (get_or rest width 0) 10)) e) [ inl l ↦ inl (leb-true (length rest) width l) | inr f ↦ inr (eqb-false (get_or rest width 0) 10 (not-true _ f)) ]

not_on : (n v : ℕ) → outside n v ≡ true → On n v → ⊥
not_on n v e on = both_ways _ (on_inside n v on) e

not_form : (b : ℕ) → not (is_some (spelled_by b)) ≡ true → (f : Form) → b ≡ letter f → ⊥
not_form b e f s = both_ways _ (ap (λ (a : ℕ). not (is_some (spelled_by a))) s ∙ (form_back f).0) e

-- the line after a rule's line
pub next_line : (text : List ℕ) (line : ℕ) → 2 ≤ line → at_line (line + 1) text ≡ drop 38 (at_line line text)
next_line text line h =
    let e : 12 + 38 * (line + 1 - 2) ≡ 12 + 38 * (line - 2) + 38 = omega arith in
    ap (λ (i : ℕ). drop i text) e ∙ sym (drop-drop 38 (12 + 38 * (line - 2)) text)

module _ {G : Type 0} {m : Meaning G} {c : Coding G} (codes : Codes m c 65535) (n p : ℕ) (text : List ℕ) where
  abbrev Row : Report → Type 0
  Row q = FaultRow c n p text (number q.refusal) q.layer q.place.line q.place.column

  not_grade : (v : ℕ) → not (is_some (c.decode v)) ≡ true → (g : G) → c.code g ≡ v → ⊥
  not_grade v e g s = both_ways _ (ap (λ (a : ℕ). not (is_some (c.decode a))) (sym s) ∙ ap (λ o. not (is_some o)) (codes.decodes g).1) e

  -- the mark of the line before
  abbrev Before : ℕ → ℕ → Type 0
  Before line last = ((line ≡ 2) × (last ≡ 0)) ⊎ ((3 ≤ line) × Spells (rule_line (line - 1) text) 2 last)

  module _ (line : ℕ) (due : Due text line) where
    abbrev bytes : List ℕ
    bytes = rule_line line text

    module _ (l : length bytes ≡ 37) where
      says : (column : ℕ) → column ≤ 33 → not (is_some (parsed (take 5 (drop (column - 1) bytes)))) ≡ false → Spells bytes column (number_in bytes column)
      says column h e = number_spelled bytes column (omega arith) e

      -- a body after one with the number v, and what follows
      each_body : (column v : ℕ) → OneOf column numbers → OneOf column bodies → 18 < column → column ≤ 33 → Spells bytes (column - 5) v → Each Row (body_checks n line column (eqb v 0) bytes)
      each_body column v nu bo h top s = (
        λ e. rule_number due nu (no_number bytes column e),
        λ z.
            let w = says column top z in (
              λ e. no_body due bo w (ltb-true n (number_in bytes column) e),
              λ _. (
                λ e.
                    let a = and_parts (eqb v 0) (not (eqb (number_in bytes column) 0)) e in
                    body_gap due bo h (subst (λ (a : ℕ). Spells bytes (column - 5) a) (eqb-true v 0 a.0) s) w (eqb-false (number_in bytes column) 0 (not-true _ a.1)),
                λ _. tt,
              ),
            ),
      )

      each_first_body : Each Row (body_checks n line 18 false bytes)
      each_first_body = (
        λ e. rule_number due (later (later (later first))) (no_number bytes 18 e),
        λ z. (λ e. no_body due first (says 18 (omega arith) z) (ltb-true n (number_in bytes 18) e), λ _. (λ e. absurd (false≢true e), λ _. tt)),
      )

      abbrev last_body : List Check
      last_body = body_checks n line 33 (eqb (number_in bytes 28) 0) bytes

      abbrev last_two : List Check
      last_two = body_checks n line 28 (eqb (number_in bytes 23) 0) bytes ++ last_body

      abbrev last_three : List Check
      last_three = body_checks n line 23 (eqb (number_in bytes 18) 0) bytes ++ last_two

      each_bodies : Each Row (bodies_checks n line bytes)
      each_bodies =
          each_both Row (Unit {0}) (body_checks n line 18 false bytes) last_three each_first_body
          (λ u.
          each_both Row (Unit {0}) (body_checks n line 23 (eqb (number_in bytes 18) 0) bytes) last_two (each_body 23 (number_in bytes 18) (later (later (later (later first)))) (later first) (omega arith) (omega arith) (says 18 (omega arith) u.0))
          (λ v.
          each_both Row (Unit {0}) (body_checks n line 28 (eqb (number_in bytes 23) 0) bytes) last_body (each_body 28 (number_in bytes 23) (later (later (later (later (later first))))) (later (later first)) (omega arith) (omega arith) (says 23 (omega arith) v.0))
          (λ w. each_body 33 (number_in bytes 28) (later (later (later (later (later (later first)))))) (later (later (later first))) (omega arith) (omega arith) (says 28 (omega arith) w.0))))

      order : (last : ℕ) → Before line last → outside p (number_in bytes 2) ≡ false → Spells bytes 2 (number_in bytes 2) → leb (number_in bytes 2) last ≡ true → FaultRow c n p text 15 Board line 2
      order last b inside s e =
          let low = leb-true (number_in bytes 2) last e in
          let on = inside_on p (number_in bytes 2) inside in
          elim b [ inl q ↦ absurd (omega arith) | inr q ↦ mark_order due q.0 q.1 s low ]

      each_rule : (last : ℕ) → Before line last → Each Row (rule_checks c n p last line bytes)
      each_rule last b = (
        λ e. rule_letter due (eqb-false (get_or bytes 0 0) 82 (not-true _ e)),
        λ _. (
          λ e. rule_number due first (no_number bytes 2 e),
          λ z.
              let mark = says 2 (omega arith) z in (
                λ e. no_mark due mark (not_on p (number_in bytes 2) e),
                λ inside. (
                  order last b inside mark,
                  λ _. (
                    λ e. rule_number due (later first) (no_number bytes 7 e),
                    λ y. (
                      λ e. no_head due (says 7 (omega arith) y) (not_on n (number_in bytes 7) e),
                      λ _. (
                        λ e. no_form due (not_form (get_or bytes 11 0) e),
                        λ _. (
                          λ e. rule_number due (later (later first)) (no_number bytes 13 e),
                          λ x. (λ e. no_grade due (says 13 (omega arith) x) (not_grade (number_in bytes 13) e), λ _. each_bodies),
                        ),
                      ),
                    ),
                  ),
                ),
              ),
        ),
      )

    each_row : (last : ℕ) → Before line last → Each Row (row_checks c n p last line (at_line line text))
    each_row last b = (λ e. rule_short due (short_by 37 (at_line line text) e), λ z. each_rule (line_width 37 (at_line line text) z) last b)

  module _ (k : ℕ) (counts : Spells (first_line text) 7 k) where
    each_rows : (last line j : ℕ) → 2 ≤ line → line + j ≡ k + 2 → Before line last → Each Row (rows_checks c n p last line j (at_line line text))
    each_rows last line zero h e b = (
      λ q.
          let some = eqb-false (length (at_line line text)) 0 (not-true _ q) in
          bytes_follow counts (omega arith) (omega arith),
      λ _. tt,
    )
    each_rows last line (suc j) h e b =
        let due : Due text line = record { rules = k; said = counts; from = h; to = omega arith } in
        let mark = number_in (rule_line line text) 2 in
        let rest = at_line line text in
        each_both Row (Unit {0}) (row_checks c n p last line rest) (rows_checks c n p mark (line + 1) j (drop 38 rest)) (each_row line due last b)
        (λ u.
        let back : line ≡ line + 1 - 1 = omega arith in
        let s : Spells (rule_line line text) 2 mark = says line due (line_width 37 rest u.0) 2 (omega arith) u.1.1.0 in
        let before : Before (line + 1) mark = inr (omega arith, subst (λ (i : ℕ). Spells (rule_line i text) 2 mark) back s) in
        subst (λ (l : List ℕ). Each Row (rows_checks c n p mark (line + 1) j l)) (next_line text line h) (each_rows mark (line + 1) j (omega arith) (omega arith) before))

  header_says : (column : ℕ) → column ≤ 7 → length (first_line text) ≡ 11 → not (is_some (parsed (take 5 (drop (column - 1) (first_line text))))) ≡ false → Spells (first_line text) column (number_in (first_line text) column)
  header_says column h l e = number_spelled (first_line text) column (omega arith) e

  each_header : Each Row (header_checks n p text)
  each_header = (
    λ e. first_short (short_by 11 text e),
    λ z.
        let l = line_width 11 text z in (
          λ e. first_letter (eqb-false (get_or (first_line text) 0 0) 66 (not-true _ e)),
          λ _. (
            λ e. first_number first (no_number (first_line text) 2 e),
            λ a. (
              λ e. wrong_count (header_says 2 (omega arith) l a) (eqb-false (number_in (first_line text) 2) n (not-true _ e)),
              λ _. (
                λ e. first_number (later first) (no_number (first_line text) 7 e),
                λ b. (λ e. many_rules (header_says 7 (omega arith) l b) (ltb-true p (number_in (first_line text) 7) e), λ _. tt),
              ),
            ),
          ),
        ),
  )

  pub each_text : Each Row (text_checks c n p text)
  each_text = (
    λ e. table_length (λ on. both_ways _ (or_from (outside 1024 n) (outside 4096 p) (on_inside 1024 n on.0) (on_inside 4096 p on.1)) e),
    λ _.
        each_both Row (Unit {0}) (header_checks n p text) (rows_checks c n p 0 2 (rule_count text) (drop 12 text)) each_header
        (λ u. each_rows (rule_count text) (header_says 7 (omega arith) (line_width 11 text u.0) u.1.1.1.1.0) 0 2 (rule_count text) (omega arith) (omega arith) (inl (refl, refl))),
  )

module _ {G : Type 0} {m : Meaning G} {c : Coding G} (codes : Codes m c 65535) where
  pub faults_are_rows : FaultsAreRows m c
  faults_are_rows text t u f l =
      let r = l.refused f refl in
      (r.0, until_first (Row codes (count t) (length t.rules) text) (Unit {0}) (each_text codes (count t) (length t.rules) text) r.1)
