-- The spelling of rules that fit the board passes all checks, and says those rules.
use Rattle.std.proofs.Common.{◌≡◌, ℕ, ◌+◌, ◌≤◌, false, leb, List, [], ◌∷◌, ◌++◌, length, sym, refl, subst, arith}
use Rattle.std.specs.List.{flat_map}
use Rattle.std.proofs.lemmas.Bool.{lt-leb, or_from}
use Rattle.scales.specs.Meaning.{Meaning}
use Rattle.scales.specs.Codes.{Coding, Codes}
use Rattle.pasts.specs.Refusals.{outside}
use Rattle.pasts.proofs.Checked.{on_inside}
use Rattle.text.specs.Boards.{Fits, AllAlike, none, more}
use Rattle.text.specs.Decimal.{written}
use Rattle.text.specs.Faults.{Unmet}
use Rattle.text.specs.Fields.{number_of}
use Rattle.text.specs.Lines.{cut}
use Rattle.text.specs.Rows.{rules_in, rules_of, rule_count, row_checks, rows_checks, header_checks, text_checks}
use Rattle.text.specs.Spelling.{row_bytes, spelling}
use Rattle.text.specs.declared.numbered.Numbered.{Numbered}
use Rattle.text.proofs.Judged.{unmet_both}
use Rattle.text.proofs.RowsBack.{row_good, row_back, mark_back, header_back}

module _ {G : Type 0} {m : Meaning G} {k : Coding G} (codes : Codes m k 65535) (n p : ℕ) (few : n ≤ 1024) (low : p ≤ 4096) where
  -- rising marks leave room for no more rules than places
  pub fits_few : (last : ℕ) (xs : List (Numbered G)) → Fits n p last xs → last ≤ p → last + length xs ≤ p
  fits_few last [] f h = omega arith
  fits_few last (x ∷ xs) f h = omega (arith, fits_few x.mark xs f.1 f.0.within, f.0.above)

  row_whole : (x : Numbered G) (rest : List ℕ) → cut 37 (row_bytes k x ++ rest) ≡ false
  row_whole x rest = or_from (leb (length (row_bytes k x ++ rest)) 37) false (lt-leb (length (row_bytes k x ++ rest)) 37 (omega arith)) refl

  pub rows_good : (last line : ℕ) (xs : List (Numbered G)) → Fits n p last xs → Unmet (rows_checks k n p last line (length xs) (flat_map (row_bytes k) xs))
  rows_good last line [] f = (refl, tt)
  rows_good last line (x ∷ xs) f =
      let rest = flat_map (row_bytes k) xs in
      unmet_both (row_checks k n p last line (row_bytes k x ++ rest)) (rows_checks k n p (number_of (written x.mark)) (line + 1) (length xs) rest)
      (row_whole x rest, row_good codes n p last line few low x f.0)
      (subst (λ (a : ℕ). Unmet (rows_checks k n p a (line + 1) (length xs) rest)) (sym (mark_back codes n p last line few low x f.0)) (rows_good x.mark (line + 1) xs f.1))

  pub rows_back : (last : ℕ) (xs : List (Numbered G)) → Fits n p last xs → AllAlike m (rules_in m k (length xs) (flat_map (row_bytes k) xs)) xs
  rows_back last [] f = none
  rows_back last (x ∷ xs) f = more (row_back codes n p last 2 few low x f.0) (rows_back x.mark xs f.1)

  module _ (xs : List (Numbered G)) (fits : Fits n p 0 xs) where
    count_low : length xs ≤ p
    count_low = omega (arith, fits_few 0 xs fits (omega arith))

    heads : Unmet (header_checks n p (spelling k n xs))
    heads =
        let rest = flat_map (row_bytes k) xs in
        let h = header_back n p (length xs) (omega arith) (omega (arith, count_low)) count_low in
        (or_from (leb (length (spelling k n xs)) 11) false (lt-leb (length (spelling k n xs)) 11 (omega arith)) refl, h.0)

    pub count_back : rule_count (spelling k n xs) ≡ length xs
    count_back = (header_back n p (length xs) (omega arith) (omega (arith, count_low)) count_low).1

    pub text_good : 1 ≤ n → 1 ≤ p → Unmet (text_checks k n p (spelling k n xs))
    text_good hn hp = (
      or_from (outside 1024 n) (outside 4096 p) (on_inside 1024 n (hn, few)) (on_inside 4096 p (hp, low)),
      unmet_both (header_checks n p (spelling k n xs)) (rows_checks k n p 0 2 (rule_count (spelling k n xs)) (flat_map (row_bytes k) xs)) heads
          (subst (λ (j : ℕ). Unmet (rows_checks k n p 0 2 j (flat_map (row_bytes k) xs))) (sym count_back) (rows_good 0 2 xs fits)),
    )

    pub text_back : AllAlike m (rules_of m k (spelling k n xs)) xs
    text_back = subst (λ (j : ℕ). AllAlike m (rules_in m k j (flat_map (row_bytes k) xs)) xs) (sym count_back) (rows_back 0 xs fits)
