-- What the checks of a line let through is the spelling of the rule that it says, which fits the board.
use Rattle.std.proofs.Common.{◌≡◌, ℕ, ◌+◌, ◌<◌, false, not, eqb, ltb, List, [], ◌∷◌, ◌++◌, length, get_or, take, drop, Some, sym, refl, ap, ◌∙◌, arith}
use Rattle.std.proofs.lemmas.List.{take-append-drop, drop-drop, drop_more, drop_all}
use Rattle.std.proofs.lemmas.Bool.{eqb-true, leb-false, not-false, or_from, or_parts, and_right}
use Rattle.scales.specs.Meaning.{Meaning}
use Rattle.scales.specs.Codes.{Coding, Codes}
use Rattle.model.specs.Letters.{letter}
use Rattle.pasts.specs.Tables.{body_checks}
use Rattle.pasts.proofs.Checked.{inside_on, none_above, no_gap, Unmet as UnmetCalls}
use Rattle.text.specs.Boards.{Fitting}
use Rattle.text.specs.Decimal.{written}
use Rattle.text.specs.Faults.{Unmet}
use Rattle.text.specs.Fields.{form_of, weight_of}
use Rattle.text.specs.Rows.{five, number_in, bodies_in, rule_in, rule_checks, counts_checks}
use Rattle.text.specs.Spelling.{row_front, header_front}
use Rattle.text.proofs.FieldsSpelled.{five_spelled, form_spelled, weight_spelled, weight_decoded}

next_five : (xs f rest : List ℕ) (k : ℕ) → take 5 (drop k xs) ≡ f → drop (k + 5) xs ≡ rest → drop k xs ≡ f ++ rest
next_five xs f rest k e d = sym (take-append-drop 5 (drop k xs)) ∙ (ap (λ l. l ++ drop 5 (drop k xs)) e ∙ ap (λ l. f ++ l) (drop-drop 5 k xs ∙ d))

next_one : (xs rest : List ℕ) (k b : ℕ) → k < length xs → get_or xs k 0 ≡ b → drop (k + 1) xs ≡ rest → drop k xs ≡ b ∷ rest
next_one xs rest k b h e d = drop_more xs k 0 h ∙ (ap (λ x. x ∷ drop (k + 1) xs) e ∙ ap (λ l. b ∷ l) d)

columns : (xs : List ℕ) (m h w p q r s f : ℕ) → length xs ≡ 37 → get_or xs 0 0 ≡ 82 → take 5 (drop 1 xs) ≡ written m → take 5 (drop 6 xs) ≡ written h → get_or xs 11 0 ≡ f
    → take 5 (drop 12 xs) ≡ written w → take 5 (drop 17 xs) ≡ written p → take 5 (drop 22 xs) ≡ written q → take 5 (drop 27 xs) ≡ written r → take 5 (drop 32 xs) ≡ written s
    → xs ≡ (82 ∷ []) ++ written m ++ written h ++ (f ∷ []) ++ written w ++ written p ++ written q ++ written r ++ written s
columns xs m h w p q r s f l e0 e1 e2 e3 e4 e5 e6 e7 e8 =
    next_one xs _ 0 82 (omega arith) e0
    (next_five xs (written m) _ 1 e1
    (next_five xs (written h) _ 6 e2
    (next_one xs _ 11 f (omega arith) e3
    (next_five xs (written w) _ 12 e4
    (next_five xs (written p) _ 17 e5
    (next_five xs (written q) _ 22 e6
    (next_five xs (written r) _ 27 e7
    (next_five xs (written s) _ 32 e8
    (drop_all 37 xs (omega arith))))))))))

header_columns : (xs : List ℕ) (a b : ℕ) → length xs ≡ 11 → get_or xs 0 0 ≡ 66 → take 5 (drop 1 xs) ≡ written a → take 5 (drop 6 xs) ≡ written b → xs ≡ header_front a b
header_columns xs a b l e0 e1 e2 =
    next_one xs _ 0 66 (omega arith) e0
    (next_five xs (written a) _ 1 e1
    (next_five xs (written b) _ 6 e2
    (drop_all 11 xs (omega arith))))

-- the first line
module _ (n p : ℕ) (bytes : List ℕ) (l : length bytes ≡ 11) (u : Unmet (counts_checks n p bytes)) where
  pub header_spelled : bytes ≡ header_front n (number_in bytes 7)
  header_spelled =
      header_columns bytes n (number_in bytes 7) l (eqb-true _ 66 (not-false _ u.0))
      (five_spelled bytes 2 (omega arith) u.1.0 ∙ ap written (eqb-true _ n (not-false _ u.1.1.0)))
      (five_spelled bytes 7 (omega arith) u.1.1.1.0)

module _ {G : Type 0} {m : Meaning G} {k : Coding G} (codes : Codes m k 65535) (n p last line : ℕ) (bytes : List ℕ) (l : length bytes ≡ 37) (u : Unmet (rule_checks k n p last line bytes)) where
  pub row_spelled : bytes ≡ row_front k (rule_in m k bytes)
  row_spelled =
      columns bytes (number_in bytes 2) (number_in bytes 7) (k.code (weight_of m k (five 13 bytes))) (number_in bytes 18) (number_in bytes 23) (number_in bytes 28) (number_in bytes 33) (letter (form_of (get_or bytes 11 0))) l
      (eqb-true _ 82 (not-false _ u.0))
      (five_spelled bytes 2 (omega arith) u.1.0)
      (five_spelled bytes 7 (omega arith) u.1.1.1.1.0)
      (form_spelled (get_or bytes 11 0) u.1.1.1.1.1.1.0)
      (five_spelled bytes 13 (omega arith) u.1.1.1.1.1.1.1.0 ∙ sym (ap written (weight_spelled codes (five 13 bytes) u.1.1.1.1.1.1.1.1.0)))
      (five_spelled bytes 18 (omega arith) u.1.1.1.1.1.1.1.1.1.0)
      (five_spelled bytes 23 (omega arith) u.1.1.1.1.1.1.1.1.1.1.1.1.0)
      (five_spelled bytes 28 (omega arith) u.1.1.1.1.1.1.1.1.1.1.1.1.1.1.1.0)
      (five_spelled bytes 33 (omega arith) u.1.1.1.1.1.1.1.1.1.1.1.1.1.1.1.1.1.1.0)

  pub row_decoded : k.decode (k.code (weight_of m k (five 13 bytes))) ≡ Some (weight_of m k (five 13 bytes))
  row_decoded = weight_decoded codes (five 13 bytes) u.1.1.1.1.1.1.1.1.0

  pub row_fits : Fitting n p last (rule_in m k bytes)
  row_fits =
      let b = u.1.1.1.1.1.1.1.1.1.1 in
      let bodies : UnmetCalls (body_checks n false (bodies_in bytes)) = (b.0, (b.1.0, (b.1.1.1.0, (b.1.1.1.1.0, (b.1.1.1.1.1.1.0, (b.1.1.1.1.1.1.1.0, (b.1.1.1.1.1.1.1.1.1.0, (b.1.1.1.1.1.1.1.1.1.1.0, tt {0})))))))) in
      let head = u.1.1.1.1.1.0 in
      record {
        above = leb-false (number_in bytes 2) last u.1.1.1.0;
        within = (inside_on p (number_in bytes 2) u.1.1.0).1;
        head = inside_on n (number_in bytes 7) head;
        formed = and_right (not (eqb (number_in bytes 7) 0)) _ (or_from _ _ (or_parts (eqb (number_in bytes 7) 0) (ltb n (number_in bytes 7)) head).1 (or_from _ _ (none_above n false (bodies_in bytes) bodies) (no_gap n false (bodies_in bytes) bodies)));
        bodies = refl;
      }
