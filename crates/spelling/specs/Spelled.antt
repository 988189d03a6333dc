-- The call that a line of a script spells. Assumes nothing.
--     body line           the line's first body, absent where the line is blank
--     bodies line         up to four bodies, the others absent
--     added c line        an add: mark, head, form, weight and bodies
--     spelled c verb rest     the call that the word `verb` and the rest of the line spell
use Rattle.std.specs.Prelude.{ℕ, cond, List, [], ◌∷◌, Ok, Err, codes, Result}
use Rattle.std.specs.Str.{bytes_eq}
use Rattle.plaintext.specs.Bytes.{first_word, after_word, all_blank}
use Rattle.scales.specs.Codes.{Coding}
use Rattle.pasts.specs.declared.call.Call.{Call}
use Rattle.pasts.specs.declared.call.Call.TheVariants.{Add, Withdraw, Want, Step, Finish, Read}
use Rattle.spelling.specs.Fields.{then, end, number_to_limit, only, grade, form}
use Rattle.spelling.specs.declared.fields.Expected.{Expected}
use Rattle.spelling.specs.declared.fields.Expected.TheVariants.{FourBodies, Verb}

abbrev pub body : List ℕ → Result ℕ Expected
body line = cond (all_blank line) (Ok 0) (number_to_limit (first_word line))

abbrev pub bodies : List ℕ → Result (List ℕ) Expected
bodies line =
    then (body line) (λ a. then (body (after_word line)) (λ b. then (body (after_word (after_word line))) (λ c. then (body (after_word (after_word (after_word line)))) (λ d. cond (all_blank (after_word (after_word (after_word (after_word line))))) (Ok (a ∷ b ∷ c ∷ d ∷ [])) (Err FourBodies)))))

module _ {G : Type 0} (c : Coding G) where
  abbrev pub added : List ℕ → Result (Call G) Expected
  added line =
      let second = after_word line in
      let third = after_word second in
      let fourth = after_word third in
      then (number_to_limit (first_word line)) (λ k. then (number_to_limit (first_word second)) (λ h. then (form (first_word third)) (λ f. then (grade c (first_word fourth)) (λ w. then (bodies (after_word fourth)) (λ bs. Ok (Add k (record { head = h; form = f; weight = w; bodies = bs })))))))

  abbrev pub spelled : List ℕ → List ℕ → Result (Call G) Expected
  spelled verb rest =
      cond (bytes_eq verb (codes "add")) (added rest)
      (cond (bytes_eq verb (codes "withdraw")) (then (only rest) (λ k. Ok (Withdraw k)))
      (cond (bytes_eq verb (codes "want")) (then (only rest) (λ s. Ok (Want s)))
      (cond (bytes_eq verb (codes "read")) (then (only rest) (λ s. Ok (Read s)))
      (cond (bytes_eq verb (codes "step")) (then (end rest) (λ _. Ok Step))
      (cond (bytes_eq verb (codes "finish")) (then (end rest) (λ _. Ok Finish)) (Err Verb))))))
