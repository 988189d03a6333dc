-- The four bodies of a line, one after another.
use Rattle.std.proofs.Common.{◌≡◌, ℕ, false, eqb, List, [], ◌∷◌, ◌++◌, Ok, Err, Result, sym, ap, ◌∙◌}
use Rattle.text.specs.Faults.{Check, judged}
use Rattle.text.specs.Rows.{number_in, body_checks, bodies_checks, bodies_in}
use Rattle.text.specs.declared.faults.Fault.{Fault}
use Rattle.text.proofs.Judged.{stops, passed, passes, after}

module _ (n line : ℕ) (bytes : List ℕ) where
  abbrev one : List Check
  one = body_checks n line 18 false bytes

  abbrev two : ℕ → List Check
  two a = body_checks n line 23 (eqb a 0) bytes

  abbrev three : ℕ → List Check
  three a = body_checks n line 28 (eqb a 0) bytes

  abbrev four : ℕ → List Check
  four a = body_checks n line 33 (eqb a 0) bytes

  abbrev body : ℕ → ℕ
  body column = number_in bytes column

  abbrev All : Result (List ℕ) Fault → Type 0
  All r = r ≡ judged (bodies_checks n line bytes) (bodies_in bytes)

  pub in_first : (f : Fault) → Err f ≡ judged one (body 18) → All (Err f)
  in_first f e = stops one (two (body 18) ++ (three (body 23) ++ four (body 28))) (body 18) (bodies_in bytes) f e

  module _ (a : ℕ) (p : Ok a ≡ judged one (body 18)) where
    is_first : a ≡ body 18
    is_first = (passed one (body 18) a p).1

    past_first : (r : Result (List ℕ) Fault) → r ≡ judged (two (body 18) ++ (three (body 23) ++ four (body 28))) (bodies_in bytes) → All r
    past_first r e = after one (two (body 18) ++ (three (body 23) ++ four (body 28))) (body 18) a (bodies_in bytes) p e

    at_first : (r : Result ℕ Fault) → r ≡ judged (two a) (body 23) → r ≡ judged (two (body 18)) (body 23)
    at_first r e = e ∙ ap (λ x. judged (two x) (body 23)) is_first

    pub in_second : (f : Fault) → Err f ≡ judged (two a) (body 23) → All (Err f)
    in_second f e = past_first (Err f) (stops (two (body 18)) (three (body 23) ++ four (body 28)) (body 23) (bodies_in bytes) f (at_first (Err f) e))

    module _ (b : ℕ) (q : Ok b ≡ judged (two a) (body 23)) where
      is_second : b ≡ body 23
      is_second = (passed (two a) (body 23) b q).1

      past_second : (r : Result (List ℕ) Fault) → r ≡ judged (three (body 23) ++ four (body 28)) (bodies_in bytes) → All r
      past_second r e = past_first r (after (two (body 18)) (three (body 23) ++ four (body 28)) (body 23) b (bodies_in bytes) (at_first (Ok b) q) e)

      at_second : (r : Result ℕ Fault) → r ≡ judged (three b) (body 28) → r ≡ judged (three (body 23)) (body 28)
      at_second r e = e ∙ ap (λ x. judged (three x) (body 28)) is_second

      pub in_third : (f : Fault) → Err f ≡ judged (three b) (body 28) → All (Err f)
      in_third f e = past_second (Err f) (stops (three (body 23)) (four (body 28)) (body 28) (bodies_in bytes) f (at_second (Err f) e))

      module _ (c : ℕ) (s : Ok c ≡ judged (three b) (body 28)) where
        is_third : c ≡ body 28
        is_third = (passed (three b) (body 28) c s).1

        past_third : (r : Result (List ℕ) Fault) → r ≡ judged (four (body 28)) (bodies_in bytes) → All r
        past_third r e = past_second r (after (three (body 23)) (four (body 28)) (body 28) c (bodies_in bytes) (at_second (Ok c) s) e)

        at_third : (r : Result ℕ Fault) → r ≡ judged (four c) (body 33) → r ≡ judged (four (body 28)) (body 33)
        at_third r e = e ∙ ap (λ x. judged (four x) (body 33)) is_third

        pub in_fourth : (f : Fault) → Err f ≡ judged (four c) (body 33) → All (Err f)
        in_fourth f e = past_third (Err f) (stops (four (body 28)) [] (body 33) (bodies_in bytes) f (at_third (Err f) e))

        pub all_four : (d : ℕ) → Ok d ≡ judged (four c) (body 33) → All (Ok (a ∷ b ∷ c ∷ d ∷ []))
        all_four d e =
            let is-fourth : d ≡ body 33 = (passed (four c) (body 33) d e).1 in
            let same : a ∷ b ∷ c ∷ d ∷ [] ≡ bodies_in bytes = cc (is_first, is_second, is_third) in
            past_third (Ok (a ∷ b ∷ c ∷ d ∷ [])) (ap Ok same ∙ sym (passes (four (body 28)) (bodies_in bytes) (passed (four (body 28)) (body 33) d (at_third (Ok d) e)).0))
