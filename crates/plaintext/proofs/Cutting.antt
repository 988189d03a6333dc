-- A number may be cut at 65,536 while it is read. Assumes nothing.
--     Alike o p       two numbers, or none, that are one as far as 65,536
--     cut_early       numbers that are alike stay so whatever digits follow
--     read_one        one more digit is read
use Rattle.std.proofs.Common.{◌≡◌, ℕ, ◌+◌, ◌*◌, ◌<◌, min, List, [], ◌∷◌, length, get_or, drop, Some, None, Option, sym, refl, ap, ◌∙◌, arith}
use Rattle.std.proofs.lemmas.List.{at_drop_more}
use Rattle.std.specs.Option.{option_map}
use Rattle.plaintext.specs.Numbers.{digit, digits, more}

abbrev pub Alike : Option ℕ → Option ℕ → Type 0
Alike o p = option_map (λ v. min v 65536) o ≡ option_map (λ v. min v 65536) p

next_alike : (v w : ℕ) (o : Option ℕ) (f : ℕ → Option ℕ) → ((d : ℕ) → Alike (f (10 * v + d)) (f (10 * w + d))) → Alike (more v o f) (more w o f)
next_alike v w None f h = refl
next_alike v w (Some d) f h = h d

pub cut_early : (v w : ℕ) (bs : List ℕ) → min v 65536 ≡ min w 65536 → Alike (digits v bs) (digits w bs)
cut_early v w [] e = ap Some e
cut_early v w (b ∷ bs) e = next_alike v w (digit b) (λ x. digits x bs) (λ d. cut_early (10 * v + d) (10 * w + d) bs (omega arith))

-- a number as far as 65,536
abbrev cut : Option ℕ → Option ℕ
cut o = option_map (λ v. min v 65536) o

module _ (v : ℕ) (word : List ℕ) (i : ℕ) (h : Alike (digits v (drop i word)) (digits 0 word)) where
  at_byte : (o : Option ℕ) → i < length word → digit (get_or word i 0) ≡ o → digits v (drop i word) ≡ more v o (λ x. digits x (drop (i + 1) word))
  at_byte o lt e = at_drop_more (digits v) word i 0 lt ∙ ap (λ p. more v p (λ x. digits x (drop (i + 1) word))) e

  pub read_one : (d w : ℕ) → i < length word → digit (get_or word i 0) ≡ Some d → w ≡ min 65536 (10 * v + d) → Alike (digits w (drop (i + 1) word)) (digits 0 word)
  read_one d w lt e is =
      cut_early w (10 * v + d) (drop (i + 1) word) (omega arith) ∙ ap cut (sym (at_byte (Some d) lt e)) ∙ h
