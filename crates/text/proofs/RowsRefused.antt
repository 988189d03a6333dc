-- Where a row of the table of refusals holds of a text, a load of it is refused: a check is met, and the first that is comes no later
-- than the row.
use Rattle.std.proofs.Common.{◌≡◌, ℕ, zero, suc, ◌+◌, ◌-◌, ◌<◌, ◌≤◌, Bool, false, not, eqb, ltb, leb, List, [], ◌∷◌, ◌++◌, length, get_or, drop, Ok, Err, sym, refl, ap, ◌∙◌, subst, inl, inr, arith}
use Rattle.std.proofs.lemmas.Bool.{both_ways, not-false, not_from_false, ltb-false, leb-false, eq-eqb, eqb-true, ne_eqb, and_from, or_parts, cases_eq}
use Rattle.scales.specs.Meaning.{Meaning}
use Rattle.scales.specs.Codes.{Coding, Codes}
use Rattle.model.specs.Least.{On}
use Rattle.model.specs.Pins.{OneOf, first, later}
use Rattle.pasts.specs.Refusals.{number, outside}
use Rattle.pasts.specs.Tables.{count}
use Rattle.pasts.specs.declared.refusal.Refusal.TheVariants.{Count}
use Rattle.pasts.proofs.Checked.{inside_on}
use Rattle.text.specs.FaultRows.{Spells, Short, first_line, at_line, rule_line, Due, numbers, bodies, NotAfter, FaultRow, table_length, no_head, no_body, no_mark, body_gap, first_short, rule_short, first_letter, rule_letter, no_form, first_number, rule_number, no_grade, wrong_count, many_rules, bytes_follow, mark_order, RowsAreRefused}
use Rattle.text.specs.Faults.{Check, check, place, report, of_board}
use Rattle.text.specs.Fields.{number_of, number_checks, form_of, form_checks, weight_checks}
use Rattle.text.specs.Lines.{cut}
use Rattle.text.specs.Rows.{five, number_in, due_check, count_checks, mark_checks, head_checks, body_limits, body_checks, header_checks, row_checks, rows_checks, rule_count, text_checks}
use Rattle.text.specs.declared.faults.Layer.{Layer}
use Rattle.text.specs.declared.faults.Place.{Place}
use Rattle.text.specs.declared.faults.Report.{Report}
use Rattle.text.proofs.EachCheck.{Until, Each, each_both, until_within, until_none}
use Rattle.text.proofs.FaultsMet.{no_number, next_line}
use Rattle.text.proofs.FieldsSpelled.{number_spelled, number_back, form_spelled, weight_spelled}
use Rattle.text.proofs.Judged.{passed}
use Rattle.text.proofs.TextsSpelled.{line_width}

read_as : (bytes : List ℕ) (column v : ℕ) → Spells bytes column v → number_in bytes column ≡ v
read_as bytes column v s = ap (λ (l : List ℕ). number_of l) s.1 ∙ number_back v s.0

never_short : (width : ℕ) (rest : List ℕ) → cut width rest ≡ false → Short width rest → ⊥
never_short width rest e s =
    let q = or_parts (leb (length rest) width) (not (eqb (get_or rest width 0) 10)) e in
    elim s [ inl l ↦ omega (arith, leb-false (length rest) width q.0) | inr f ↦ f (eqb-true (get_or rest width 0) 10 (not-false _ q.1)) ]

-- the report comes no later than the row of the number k at the line and column
abbrev pub NoLater : ℕ → ℕ → ℕ → Report → Type 0
NoLater line column k q = NotAfter q.place.line q.place.column (number q.refusal) line column k

-- one of the checks is met, and whichever is the first comes no later than that row
abbrev Reached : ℕ → ℕ → ℕ → List Check → Type 0
Reached line column k cs = Until (NoLater line column k) ⊥ cs

left : (line a j column k : ℕ) → a < column → NotAfter line a j line column k
left line a j column k h = inr (refl, inl h)

beside : (line column j k : ℕ) → j ≤ k → NotAfter line column j line column k
beside line column j k h = inr (refl, inr (refl, h))

-- the checks are all of one place
abbrev AllAt : Place → List Check → Type 0
AllAt p [] = Unit {0}
AllAt p (k ∷ cs) = ((report k.fault).place ≡ p) × AllAt p cs

pass : (P : Report → Type 0) (p : Place) (cs : List Check) → AllAt p cs → ((q : Report) → q.place ≡ p → P q) → Each P cs
pass P p [] a h = tt
pass P p (k ∷ cs) a h = (λ _. h (report k.fault) a.0, λ _. pass P p cs a.1 h)

-- what is checked of a line, field by field: the column of each field, and its checks
abbrev joined : List (ℕ × List Check) → List Check
joined [] = []
joined (g ∷ gs) = g.1 ++ joined gs

abbrev Rising : ℕ → ℕ → List (ℕ × List Check) → Type 0
Rising line a [] = Unit {0}
Rising line a (g ∷ gs) = (a < g.0) × AllAt (place line g.0) g.1 × Rising line g.0 gs

rises : (line a : ℕ) {g : ℕ × List Check} {gs : List (ℕ × List Check)} → OneOf g gs → Rising line a gs → a < g.0
rises line a first r = r.0
rises line a (later {q} o) r = omega (arith, r.0, rises line q.0 o r.2)

-- where a row is reached in the checks of its field, it is in those of its line: the fields to the left come first
in_line : (line a k : ℕ) {g : ℕ × List Check} {gs : List (ℕ × List Check)} → OneOf g gs → Rising line a gs → Reached line g.0 k g.1 → Reached line g.0 k (joined gs)
in_line line a k (first {r} {rs}) s u = until_within (NoLater line r.0 k) ⊥ r.1 (joined rs) u
in_line line a k (later {r} {q} {rs} o) s u =
    let P = NoLater line r.0 k in
    each_both P ⊥ q.1 (joined rs)
    (pass P (place line q.0) q.1 s.1
    (λ x e. subst (λ (p : Place). NotAfter p.line p.column (number x.refusal) line r.0 k) (sym e) (left line q.0 (number x.refusal) r.0 k (rises line q.0 o s.2))))
    (λ _. in_line line q.0 k o s.2 u)

pass_line : (P : Report → Type 0) (line a : ℕ) (gs : List (ℕ × List Check)) → Rising line a gs → ((q : Report) → q.place.line ≡ line → P q) → Each P (joined gs)
pass_line P line a [] s h = tt
pass_line P line a (g ∷ gs) s h =
    each_both P (Unit {0}) g.1 (joined gs) (pass P (place line g.0) g.1 s.1 (λ q e. h q (ap (λ (p : Place). p.line) e))) (λ _. pass_line P line g.0 gs s.2 h)

-- where a number is spelled its field is not at fault
spelled : (P : Report → Type 0) (bytes : List ℕ) (line column v : ℕ) (cs : List Check) → Spells bytes column v → Until P ⊥ cs → Until P ⊥ (number_checks (five column bytes) line column ++ cs)
spelled P bytes line column v cs s u = (λ e. absurd (no_number bytes column e v s), λ _. u)

-- a number field of a line of that width, and what it is checked for besides
module _ (width line : ℕ) (bytes : List ℕ) where
  abbrev Numbered : List (ℕ × List Check) → ℕ → Type 0
  Numbered groups column = (1 < column) × (column + 4 ≤ width) × (cs : List Check) × OneOf (column, number_checks (five column bytes) line column ++ cs) groups

  unspelled : length bytes ≡ width → (column : ℕ) (cs : List Check) → 1 < column → column + 4 ≤ width → ((v : ℕ) → Spells bytes column v → ⊥) → Reached line column 12 (number_checks (five column bytes) line column ++ cs)
  unspelled l column cs low h f = (
    λ _. beside line column 12 12 (omega arith),
    λ z. absurd (f (number_in bytes column) (number_spelled bytes column (omega arith) z)),
  )

module _ {G : Type 0} {m : Meaning G} {c : Coding G} (codes : Codes m c 65535) (n p : ℕ) (text : List ℕ) where
  abbrev first_groups : List (ℕ × List Check)
  first_groups =
      let bytes = first_line text in
      (1, due_check 66 1 bytes ∷ []) ∷ (2, count_checks 2 (not (eqb (number_in bytes 2) n)) bytes) ∷ (7, count_checks 7 (ltb p (number_in bytes 7)) bytes) ∷ []

  first_rising : Rising 1 0 first_groups
  first_rising = search (refl, arith)

  abbrev rule_groups : ℕ → ℕ → List (ℕ × List Check)
  rule_groups last line =
      let bytes = rule_line line text in
      (1, due_check 82 line bytes ∷ [])
      ∷ (2, mark_checks p last line bytes)
      ∷ (7, head_checks n line bytes)
      ∷ (12, form_checks (get_or bytes 11 0) line 12)
      ∷ (13, weight_checks c (five 13 bytes) line 13)
      ∷ (18, body_checks n line 18 false bytes)
      ∷ (23, body_checks n line 23 (eqb (number_in bytes 18) 0) bytes)
      ∷ (28, body_checks n line 28 (eqb (number_in bytes 23) 0) bytes)
      ∷ (33, body_checks n line 33 (eqb (number_in bytes 28) 0) bytes)
      ∷ []

  rule_rising : (last line : ℕ) → Rising line 0 (rule_groups last line)
  rule_rising last line = search (refl, arith)

  of_first : (column k : ℕ) → Reached 1 column k (header_checks n p text) → Reached 1 column k (text_checks c n p text)
  of_first column k u = (λ _. inl (omega arith), λ _. until_within (NoLater 1 column k) ⊥ (header_checks n p text) (rows_checks c n p 0 2 (rule_count text) (drop 12 text)) u)

  -- a row of the first line, at the column of one of its fields
  in_first : (k : ℕ) {g : ℕ × List Check} → OneOf g first_groups → NotAfter 1 1 10 1 g.0 k → (cut 11 text ≡ false → Reached 1 g.0 k g.1) → Reached 1 g.0 k (text_checks c n p text)
  in_first k {g} o h u = of_first g.0 k (λ _. h, λ z. in_line 1 0 k o first_rising (u z))

  count_field : {column : ℕ} → OneOf column (2 ∷ 7 ∷ []) → Numbered 11 1 (first_line text) first_groups column
  count_field first = (omega arith, omega arith, _, later first)
  count_field (later first) = (omega arith, omega arith, _, later (later first))
  count_field (later (later o)) = elim o [ ]

  -- a count v that is at fault
  at_count : (column v : ℕ) (bad : Bool) → OneOf (column, count_checks column bad (first_line text)) first_groups → 1 < column → Spells (first_line text) column v → (bad ≡ false → ⊥) → Reached 1 column 14 (text_checks c n p text)
  at_count column v bad o h s f =
      in_first 14 o (left 1 1 10 column 14 h)
      (λ _. spelled (NoLater 1 column 14) (first_line text) 1 column v (check (of_board Count 1 column) bad ∷ []) s (λ _. beside 1 column 14 14 (omega arith), f))

  -- the mark of the line before
  abbrev Before : ℕ → ℕ → Type 0
  Before line last = 3 ≤ line → last ≡ number_in (rule_line (line - 1) text) 2

  -- the row is reached in the checks of the lines from one on
  abbrev From : ℕ → ℕ → ℕ → ℕ → Type 0
  From l column k line = (last j : ℕ) → line + j ≡ rule_count text + 2 → Before line last → Reached l column k (rows_checks c n p last line j (at_line line text))

  module _ (l column k : ℕ) (low : 2 ≤ l) (high : l ≤ rule_count text + 2) (goal : From l column k l) where
    upper_line : (last line : ℕ) → line < l → Each (NoLater l column k) (row_checks c n p last line (at_line line text))
    upper_line last line h =
        let all : (q : Report) → q.place.line ≡ line → NoLater l column k q = λ q e. inl (omega arith) in
        (λ _. inl h, λ _. pass_line (NoLater l column k) line 0 (rule_groups last line) (rule_rising last line) all)

    to_line : (last line j : ℕ) → 2 ≤ line → line ≤ l → line + j ≡ rule_count text + 2 → Before line last → Reached l column k (rows_checks c n p last line j (at_line line text))
    to_line last line zero h up e b = let here : line ≡ l = omega arith in subst (From l column k) (sym here) goal last zero e b
    to_line last line (suc j) h up e b =
        let mark = number_in (rule_line line text) 2 in
        let back : line ≡ line + 1 - 1 = omega arith in
        elim (cases_eq line l) [
          | inl here ↦ subst (From l column k) (sym here) goal last (suc j) e b
          | inr f ↦
              each_both (NoLater l column k) ⊥ (row_checks c n p last line (at_line line text)) (rows_checks c n p mark (line + 1) j (drop 38 (at_line line text))) (upper_line last line (omega arith))
              (λ _.
              subst (λ (s : List ℕ). Reached l column k (rows_checks c n p mark (line + 1) j s)) (next_line text line h)
              (to_line mark (line + 1) j (omega arith) (omega arith) (omega arith) (λ _. ap (λ (i : ℕ). number_in (rule_line i text) 2) back)))
        ]

    -- a row of the line l, below the first
    in_rows : Reached l column k (text_checks c n p text)
    in_rows =
        let P = NoLater l column k in
        let all : (q : Report) → q.place.line ≡ 1 → NoLater l column k q = λ q e. inl (omega arith) in
        (λ _. inl (omega arith), λ _. each_both P ⊥ (header_checks n p text) (rows_checks c n p 0 2 (rule_count text) (drop 12 text)) (λ _. inl (omega arith), λ _. pass_line P 1 0 first_groups first_rising all) (λ _. to_line 0 2 (rule_count text) (omega arith) (omega arith) (omega arith) (λ h. absurd (omega arith))))

  module _ (line : ℕ) (d : Due text line) where
    abbrev bytes : List ℕ
    bytes = rule_line line text

    ends : line ≤ rule_count text + 1
    ends = let k = read_as (first_line text) 7 d.rules d.said in let to = d.to in omega arith

    rows_from : (column k last j : ℕ) → line + j ≡ rule_count text + 2 → Reached line column k (row_checks c n p last line (at_line line text)) → Reached line column k (rows_checks c n p last line j (at_line line text))
    rows_from column k last zero e u = absurd (omega (arith, ends))
    rows_from column k last (suc j) e u =
        until_within (NoLater line column k) ⊥ (row_checks c n p last line (at_line line text)) (rows_checks c n p (number_in bytes 2) (line + 1) j (drop 38 (at_line line text))) u

    of_row : (column k : ℕ) → ((last : ℕ) → Before line last → Reached line column k (row_checks c n p last line (at_line line text))) → Reached line column k (text_checks c n p text)
    of_row column k f = in_rows line column k d.from (omega (arith, ends)) (λ last j e b. rows_from column k last j e (f last b))

    in_rule : (column k : ℕ) → NotAfter line 1 10 line column k → ((last : ℕ) → Before line last → (cs : List Check) × OneOf (column, cs) (rule_groups last line) × (cut 37 (at_line line text) ≡ false → Reached line column k cs)) → Reached line column k (text_checks c n p text)
    in_rule column k h f = of_row column k (λ last b. let x = f last b in (λ _. h, λ z. in_line line 0 k x.1 (rule_rising last line) (x.2 z)))

    number_field : (last : ℕ) {column : ℕ} → OneOf column numbers → Numbered 37 line bytes (rule_groups last line) column
    number_field last first = (omega arith, omega arith, _, later first)
    number_field last (later first) = (omega arith, omega arith, _, later (later first))
    number_field last (later (later first)) = (omega arith, omega arith, _, later (later (later (later first))))
    number_field last (later (later (later first))) = (omega arith, omega arith, _, later (later (later (later (later first)))))
    number_field last (later (later (later (later first)))) = (omega arith, omega arith, _, later (later (later (later (later (later first))))))
    number_field last (later (later (later (later (later first))))) = (omega arith, omega arith, _, later (later (later (later (later (later (later first)))))))
    number_field last (later (later (later (later (later (later first)))))) = (omega arith, omega arith, _, later (later (later (later (later (later (later (later first))))))))
    number_field last (later (later (later (later (later (later (later o))))))) = elim o [ ]

    not_number : (column : ℕ) → OneOf column numbers → ((v : ℕ) → Spells bytes column v → ⊥) → Reached line column 12 (text_checks c n p text)
    not_number column o f =
        in_rule column 12 (left line 1 10 column 12 (number_field 0 o).0)
        (λ last b.
        let g = number_field last o in
        (number_checks (five column bytes) line column ++ g.2, g.3, λ z. unspelled 37 line bytes (line_width 37 (at_line line text) z) column g.2 g.0 g.1 f))

    -- a field whose number v is at fault
    at_number : (column k v : ℕ) → 1 < column → Spells bytes column v → ((last : ℕ) → Before line last → (cs : List Check) × OneOf (column, number_checks (five column bytes) line column ++ cs) (rule_groups last line) × Reached line column k cs) → Reached line column k (text_checks c n p text)
    at_number column k v h s f =
        in_rule column k (left line 1 10 column k h)
        (λ last b.
        let x = f last b in (
          number_checks (five column bytes) line column ++ x.0,
          x.1,
          λ _. spelled (NoLater line column k) bytes line column v x.0 s x.2,
        ))

    -- a body, after one that is absent or not
    abbrev AfterBody : ℕ → ℕ → Type 0
    AfterBody last column = (1 < column) × (absent : Bool) × OneOf (column, body_checks n line column absent bytes) (rule_groups last line) × (18 < column → absent ≡ eqb (number_in bytes (column - 5)) 0)

    body_field : (last : ℕ) {column : ℕ} → OneOf column bodies → AfterBody last column
    body_field last first = (omega arith, false, later (later (later (later (later first)))), λ h. absurd (omega arith))
    body_field last (later first) = (omega arith, eqb (number_in bytes 18) 0, later (later (later (later (later (later first))))), λ _. refl)
    body_field last (later (later first)) = (omega arith, eqb (number_in bytes 23) 0, later (later (later (later (later (later (later first)))))), λ _. refl)
    body_field last (later (later (later first))) = (omega arith, eqb (number_in bytes 28) 0, later (later (later (later (later (later (later (later first))))))), λ _. refl)
    body_field last (later (later (later (later o)))) = elim o [ ]

    at_body : (column k v : ℕ) → OneOf column bodies → Spells bytes column v → ((absent : Bool) → (18 < column → absent ≡ eqb (number_in bytes (column - 5)) 0) → Reached line column k (body_limits n line column absent (number_in bytes column))) → Reached line column k (text_checks c n p text)
    at_body column k v o s f =
        at_number column k v (body_field 0 o).0 s
        (λ last b. let g = body_field last o in (body_limits n line column g.1 (number_in bytes column), g.2, f g.1 g.3))

    low_body : (column v : ℕ) → OneOf column bodies → Spells bytes column v → n < v → Reached line column 3 (text_checks c n p text)
    low_body column v o s h =
        at_body column 3 v o s
        (λ absent a. (
          λ _. beside line column 3 3 (omega arith),
          λ z. let e = read_as bytes column v s in let low = ltb-false n (number_in bytes column) z in absurd (omega arith),
        ))

    gap : (column v : ℕ) → OneOf column bodies → 18 < column → Spells bytes (column - 5) 0 → Spells bytes column v → (v ≡ 0 → ⊥) → Reached line column 7 (text_checks c n p text)
    gap column v o h y s f =
        at_body column 7 v o s
        (λ absent a. (
          λ _. beside line column 3 7 (omega arith),
          λ _. (
            λ _. beside line column 7 7 (omega arith),
            λ z.
                let gone = a h ∙ eq-eqb (number_in bytes (column - 5)) 0 (read_as bytes (column - 5) 0 y) in
                let there = not_from_false (eqb (number_in bytes column) 0) (ne_eqb (number_in bytes column) 0 (λ w. f (sym (read_as bytes column v s) ∙ w))) in
                both_ways _ z (and_from _ _ gone there),
          ),
        ))

    no_order : (v w : ℕ) → 3 ≤ line → Spells (rule_line (line - 1) text) 2 w → Spells bytes 2 v → v ≤ w → Reached line 2 15 (text_checks c n p text)
    no_order v w h x y low =
        at_number 2 15 v (omega arith) y
        (λ last b. (
          _,
          later first,
          (
            λ _. beside line 2 4 15 (omega arith),
            λ _. (
              λ _. beside line 2 15 15 (omega arith),
              λ z.
                  let up = leb-false (number_in bytes 2) last z in
                  let e = b h in
                  let ev = read_as bytes 2 v y in
                  let ew = read_as (rule_line (line - 1) text) 2 w x in
                  absurd (omega arith),
            ),
          ),
        ))

  no_bytes : (line : ℕ) → line ≡ rule_count text + 2 → 1 ≤ length (at_line line text) → From line 1 14 line
  no_bytes line here some last zero e b = (
    λ _. beside line 1 14 14 (omega arith),
    λ z. let none = eqb-true (length (at_line line text)) 0 (not-false _ z) in omega arith,
  )
  no_bytes line here some last (suc j) e b = absurd (omega arith)

  pub reached : {k : ℕ} {layer : Layer} {line column : ℕ} → FaultRow c n p text k layer line column → Reached line column k (text_checks c n p text)
  reached (table_length f) = (
    λ _. beside 0 0 1 1 (omega arith),
    λ z. let q = or_parts (outside 1024 n) (outside 4096 p) z in absurd (f (inside_on 1024 n q.0, inside_on 4096 p q.1)),
  )
  reached (no_head {line} {v} d s f) =
      at_number line d 7 3 v (omega arith) s
      (λ _ _. (_, later (later first), (λ _. beside line 7 3 3 (omega arith), λ z. absurd (f (subst (On n) (read_as (rule_line line text) 7 v s) (inside_on n (number_in (rule_line line text) 7) z))))))
  reached (no_body {line} {column} {v} d o s h) = low_body line d column v o s h
  reached (no_mark {line} {v} d s f) =
      at_number line d 2 4 v (omega arith) s
      (λ _ _. (_, later first, (λ _. beside line 2 4 4 (omega arith), λ z. absurd (f (subst (On p) (read_as (rule_line line text) 2 v s) (inside_on p (number_in (rule_line line text) 2) z))))))
  reached (body_gap {line} {column} {v} d o h z s f) = gap line d column v o h z s f
  reached (first_short s) = of_first 1 10 (λ _. beside 1 1 10 10 (omega arith), λ z. absurd (never_short 11 text z s))
  reached (rule_short {line} d s) = of_row line d 1 10 (λ _ _. (λ _. beside line 1 10 10 (omega arith), λ z. absurd (never_short 37 (at_line line text) z s)))
  reached (first_letter f) =
      in_first 11 first (beside 1 1 10 11 (omega arith)) (λ _. (λ _. beside 1 1 11 11 (omega arith), λ z. f (eqb-true (get_or (first_line text) 0 0) 66 (not-false _ z))))
  reached (rule_letter {line} d f) =
      in_rule line d 1 11 (beside line 1 10 11 (omega arith))
      (λ _ _. (_, first, λ _. (λ _. beside line 1 11 11 (omega arith), λ z. f (eqb-true (get_or (rule_line line text) 0 0) 82 (not-false _ z)))))
  reached (no_form {line} d f) =
      in_rule line d 12 11 (left line 1 10 12 11 (omega arith))
      (λ _ _. (_, later (later (later first)), λ _. (λ _. beside line 12 11 11 (omega arith), λ z. f (form_of (get_or (rule_line line text) 11 0)) (form_spelled (get_or (rule_line line text) 11 0) z))))
  reached (first_number {column} o f) =
      let g = count_field o in
      in_first 12 g.3 (left 1 1 10 column 12 g.0) (λ z. unspelled 11 1 (first_line text) (line_width 11 text z) column g.2 g.0 g.1 f)
  reached (rule_number {line} {column} d o f) = not_number line d column o f
  reached (no_grade {line} {v} d s f) =
      at_number line d 13 13 v (omega arith) s
      (λ _ _. (_, later (later (later (later first))), (λ _. beside line 13 13 13 (omega arith), λ z. f _ (weight_spelled codes (five 13 (rule_line line text)) z ∙ read_as (rule_line line text) 13 v s))))
  reached (wrong_count {v} s f) =
      at_count 2 v (not (eqb (number_in (first_line text) 2) n)) (later first) (omega arith) s
      (λ z. f (sym (read_as (first_line text) 2 v s) ∙ eqb-true (number_in (first_line text) 2) n (not-false _ z)))
  reached (many_rules {v} s h) =
      at_count 7 v (ltb p (number_in (first_line text) 7)) (later (later first)) (omega arith) s
      (λ z. let e = read_as (first_line text) 7 v s in let low = ltb-false p (number_in (first_line text) 7) z in omega arith)
  reached (bytes_follow {line} {v} s at some) =
      let same : line ≡ rule_count text + 2 = at ∙ ap (λ (i : ℕ). i + 2) (sym (read_as (first_line text) 7 v s)) in
      in_rows line 1 14 (omega arith) (omega arith) (no_bytes line same some)
  reached (mark_order {line} {v} {w} d h x y low) = no_order line d v w h x y low

module _ {G : Type 0} {m : Meaning G} {c : Coding G} (codes : Codes m c 65535) where
  pub rows_are_refused : RowsAreRefused m c
  rows_are_refused text t u (Err f) k layer line column l row = (f, refl)
  rows_are_refused text t u (Ok j) k layer line column l row =
      let cs = text_checks c (count t) (length t.rules) text in
      absurd (until_none (NoLater line column k) ⊥ cs (reached codes (count t) (length t.rules) text row) (passed cs (rule_count text) j l.answer).0)
