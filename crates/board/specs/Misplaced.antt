-- What is wrong with a body, as its neighbour to the left shows. Assumes nothing.
--     misplaced_after n a b       the body b is there, and it is above n, or a, the body before it, is absent
--     misplaced_here n b          the body b is above n, or it is absent where one to the right is there
use Rattle.std.specs.Prelude.{ℕ, Bool, not, ◌&&◌, ◌||◌, ◌==◌, nat_lt}

abbrev pub misplaced_after : ℕ → ℕ → ℕ → Bool
misplaced_after n a b = not (b == 0) && (a == 0 || nat_lt n b)

abbrev pub misplaced_here : ℕ → ℕ → Bool
misplaced_here n b = b == 0 || nat_lt n b
