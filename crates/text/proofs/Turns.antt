-- The lines of a text, one after another.
use Rattle.std.proofs.Common.{◌≡◌, ℕ, suc, ◌+◌, ◌-◌, ◌<◌, ◌≤◌, not, eqb, List, [], ◌∷◌, ◌++◌, length, take, drop, set, Ok, Err, sym, ap, ◌∙◌, subst, arith}
use Rattle.std.proofs.lemmas.Bool.{cond-true, cond-false, not_from_false, not_from_true, ne_eqb, eq-eqb}
use Rattle.scales.specs.Meaning.{Meaning}
use Rattle.scales.specs.Codes.{Coding}
use Rattle.model.specs.Least.{On}
use Rattle.model.specs.declared.rule.Rule.{Rule}
use Rattle.pasts.specs.declared.refusal.Refusal.TheVariants.{Count}
use Rattle.pasts.proofs.Checked.{inside_on}
use Rattle.text.specs.Boards.{placed}
use Rattle.text.specs.Faults.{Check, check, of_board, judged, Unmet}
use Rattle.text.specs.Lines.{cut, after}
use Rattle.text.specs.Rows.{number_in, rule_in, rules_in, row_checks, rows_checks}
use Rattle.text.specs.declared.faults.Fault.{Fault}
use Rattle.text.specs.declared.numbered.Numbered.{Numbered}
use Rattle.text.proofs.Judged.{passed, goes, stops}

-- a line before the end is one of those that are left
left_more : (line end : ℕ) → line < end → end - line ≡ suc (end - (line + 1))
left_more line end h = omega arith

module _ {G : Type 0} (m : Meaning G) (k : Coding G) (n p : ℕ) where
  abbrev rows : ℕ → ℕ → ℕ → List ℕ → List Check
  rows last line j rest = rows_checks k n p last line j rest

  front : (last line end : ℕ) (rest : List ℕ) → line < end → rows last line (end - line) rest ≡ row_checks k n p last line rest ++ rows (number_in (take 37 rest) 2) (line + 1) (end - (line + 1)) (drop 38 rest)
  front last line end rest h = ap (λ j. rows last line j rest) (left_more line end h)

  -- the checks when no line is left
  pub at_end : (last line end : ℕ) (rest : List ℕ) → line ≡ end → rows last line (end - line) rest ≡ check (of_board Count end 1) (not (eqb (length rest) 0)) ∷ []
  at_end last line end rest e =
      let z : end - end ≡ 0 = omega arith in
      ap (λ j. rows last j (end - j) rest) e ∙ ap (λ j. rows last end j rest) z

  pub in_line : (last line end : ℕ) (rest : List ℕ) (f : Fault) → line < end → Err f ≡ judged (row_checks k n p last line rest) (rule_in m k (take 37 rest)) → Err f ≡ judged (rows last line (end - line) rest) (tt {0})
  in_line last line end rest f h e =
      stops (row_checks k n p last line rest) (rows (number_in (take 37 rest) 2) (line + 1) (end - (line + 1)) (drop 38 rest)) (rule_in m k (take 37 rest)) (tt {0}) f e
      ∙ sym (ap (λ cs. judged cs (tt {0})) (front last line end rest h))

  module _ (last line end : ℕ) (rest next : List ℕ) (x : Numbered G) (h : line < end) (e : Ok x ≡ judged (row_checks k n p last line rest) (rule_in m k (take 37 rest))) (moved : next ≡ after 37 rest) where
    unmet : Unmet (row_checks k n p last line rest)
    unmet = (passed (row_checks k n p last line rest) (rule_in m k (take 37 rest)) x e).0

    is : x ≡ rule_in m k (take 37 rest)
    is = (passed (row_checks k n p last line rest) (rule_in m k (take 37 rest)) x e).1

    gone : drop 38 rest ≡ next
    gone = sym (moved ∙ cond-false (cut 37 rest) rest (drop 38 rest) unmet.0)

    pub goes_on : judged (rows last line (end - line) rest) (tt {0}) ≡ judged (rows x.mark (line + 1) (end - (line + 1)) next) (tt {0})
    goes_on =
        ap (λ cs. judged cs (tt {0})) (front last line end rest h)
        ∙ goes (row_checks k n p last line rest) (rows (number_in (take 37 rest) 2) (line + 1) (end - (line + 1)) (drop 38 rest)) (rule_in m k (take 37 rest)) x (tt {0}) e
        ∙ ap (λ (a : ℕ). judged (rows a (line + 1) (end - (line + 1)) (drop 38 rest)) (tt {0})) (sym (ap (λ (y : Numbered G). y.mark) is))
        ∙ ap (λ (r : List ℕ). judged (rows x.mark (line + 1) (end - (line + 1)) r) (tt {0})) gone

    pub on_place : On p x.mark
    on_place = subst (On p) (sym (ap (λ (y : Numbered G). y.mark) is)) (inside_on p (number_in (take 37 rest) 2) unmet.1.1.1.0)

    pub placed_on : (rules : List (Rule G)) → placed (set rules (x.mark - 1) x.rule) (rules_in m k (end - (line + 1)) next) ≡ placed rules (rules_in m k (end - line) rest)
    placed_on rules =
        sym (ap (λ (j : ℕ). placed rules (rules_in m k j rest)) (left_more line end h)
        ∙ ap (λ (y : Numbered G). placed (set rules (y.mark - 1) y.rule) (rules_in m k (end - (line + 1)) (drop 38 rest))) (sym is)
        ∙ ap (λ (r : List ℕ). placed (set rules (x.mark - 1) x.rule) (rules_in m k (end - (line + 1)) r)) gone)

-- bytes after the last line, or none
pub bytes_follow : (rest : List ℕ) (f : Fault) → 0 < length rest → Err f ≡ judged (check f (not (eqb (length rest) 0)) ∷ []) (tt {0})
bytes_follow rest f h = sym (cond-true (not (eqb (length rest) 0)) _ _ (not_from_false _ (ne_eqb (length rest) 0 (omega arith))))

pub none_follow : (rest : List ℕ) (f : Fault) → length rest ≤ 0 → Ok (tt {0}) ≡ judged (check f (not (eqb (length rest) 0)) ∷ []) (tt {0})
none_follow rest f h = sym (cond-false (not (eqb (length rest) 0)) _ _ (not_from_true _ (eq-eqb (length rest) 0 (omega arith))))
