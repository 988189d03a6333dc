-- The first line's fields, one after another.
use Rattle.std.proofs.Common.{◌≡◌, ℕ, not, eqb, ltb, List, [], ◌∷◌, ◌++◌, take, Ok, Err, Result, ap, ◌∙◌}
use Rattle.text.specs.Faults.{Check, judged}
use Rattle.text.specs.Rows.{number_in, due_check, whole_check, count_checks, counts_checks, header_checks, rule_count}
use Rattle.text.specs.declared.faults.Fault.{Fault}
use Rattle.text.proofs.Judged.{stops, after}
use Rattle.text.proofs.Places.{taken_is}

module _ (n p : ℕ) (text : List ℕ) where
  abbrev dues : List ℕ → List Check
  dues bytes = due_check 66 1 bytes ∷ []

  abbrev ones : List ℕ → List Check
  ones bytes = count_checks 2 (not (eqb (number_in bytes 2) n)) bytes

  abbrev twos : List ℕ → List Check
  twos bytes = count_checks 7 (ltb p (number_in bytes 7)) bytes

  abbrev All : Result ℕ Fault → Type 0
  All r = r ≡ judged (header_checks n p text) (rule_count text)

  module _ (bytes : List ℕ) (t : Ok bytes ≡ judged (whole_check 11 1 text ∷ []) (take 11 text)) where
    abbrev Rest : Result ℕ Fault → Type 0
    Rest r = r ≡ judged (counts_checks n p bytes) (number_in bytes 7)

    past_line : (r : Result ℕ Fault) → Rest r → All r
    past_line r e = after (whole_check 11 1 text ∷ []) (counts_checks n p (take 11 text)) (take 11 text) bytes (rule_count text) t (e ∙ ap (λ b. judged (counts_checks n p b) (number_in b 7)) (taken_is 11 1 text bytes t))

    module _ (d : Ok (tt {0}) ≡ judged (dues bytes) (tt {0})) where
      past_due : (r : Result ℕ Fault) → r ≡ judged (ones bytes ++ twos bytes) (number_in bytes 7) → All r
      past_due r e = past_line r (after (dues bytes) (ones bytes ++ twos bytes) (tt {0}) (tt {0}) (number_in bytes 7) d e)

      pub in_count : (f : Fault) → Err f ≡ judged (ones bytes) (tt {0}) → All (Err f)
      in_count f e = past_due (Err f) (stops (ones bytes) (twos bytes) (tt {0}) (number_in bytes 7) f e)

      pub past_count : Ok (tt {0}) ≡ judged (ones bytes) (tt {0}) → (r : Result ℕ Fault) → r ≡ judged (twos bytes) (number_in bytes 7) → All r
      past_count q r e = past_due r (after (ones bytes) (twos bytes) (tt {0}) (tt {0}) (number_in bytes 7) q e)
