-- Numbers in columns: blanks, then decimal digits with no leading zero but 0 itself. Assumes nothing.
--     digit b             the byte b is a decimal digit
--     step s b            one more column b, where those before it came to the number in s, or were blank
--     rest s bs           what the columns bs come to then
--     parsed field        the number that the columns spell, if they spell one
--     column n power      the column of n that counts a power of ten above one: blank where n is less
--     written n           n in five columns, blanks before it; of a number above 99999 the last five digits
use Rattle.std.specs.Prelude.{ℕ, ◌+◌, ◌-◌, ◌*◌, ◌/◌, ◌%◌, Bool, cond, ◌&&◌, List, [], ◌∷◌, Some, None, Option, ◌==◌, nat_le, nat_lt}

abbrev pub digit : ℕ → Bool
digit b = nat_le 48 b && nat_le b 57

abbrev pub step : Option ℕ → ℕ → Option (Option ℕ)
step None b = cond (b == 32) (Some None) (cond (digit b) (Some (Some (b - 48))) None)
step (Some v) b = cond (v == 0) None (cond (digit b) (Some (Some (v * 10 + (b - 48)))) None)

-- what follows, where there is something
abbrev pub then : {X Y : Type 0} → Option X → (X → Option Y) → Option Y
then (Some x) f = f x
then None f = None

abbrev pub rest : Option ℕ → List ℕ → Option ℕ
rest s [] = s
rest s (b ∷ bs) = then (step s b) (λ t. rest t bs)

abbrev pub parsed : List ℕ → Option ℕ
parsed field = rest None field

abbrev pub column : ℕ → ℕ → ℕ
column n power = cond (nat_lt n power) 32 (48 + n / power % 10)

abbrev pub written : ℕ → List ℕ
written n = column n 10000 ∷ column n 1000 ∷ column n 100 ∷ column n 10 ∷ (48 + n % 10) ∷ []
