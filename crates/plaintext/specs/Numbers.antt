-- Decimal numbers. Assumes nothing.
--     digit b             the digit that the byte b is
--     digits v bs         the number that v and then the digits bs spell, none where one of bs is no digit
--     decimal bs          the number that the word bs spells, up to 65,536, which stands for all above; none if bs is empty or has another byte
--     small o             the same where it is at most 65,535
use Rattle.std.specs.Prelude.{ℕ, ◌+◌, ◌-◌, ◌*◌, min, cond, ◌&&◌, List, [], ◌∷◌, length, Some, None, Option, ◌==◌, nat_le, nat_lt}
use Rattle.std.specs.Option.{option_map}

abbrev pub digit : ℕ → Option ℕ
digit b = cond (nat_le 48 b && nat_le b 57) (Some (b - 48)) None

abbrev pub more : ℕ → Option ℕ → (ℕ → Option ℕ) → Option ℕ
more v None next = None
more v (Some d) next = next (10 * v + d)

abbrev pub digits : ℕ → List ℕ → Option ℕ
digits v [] = Some v
digits v (b ∷ bs) = more v (digit b) (λ w. digits w bs)

abbrev pub decimal : List ℕ → Option ℕ
decimal bs = cond (length bs == 0) None (option_map (λ v. min v 65536) (digits 0 bs))

abbrev pub small : Option ℕ → Option ℕ
small None = None
small (Some v) = cond (nat_lt v 65536) (Some v) None
