-- A line at the front of what is left of a text. Assumes nothing.
--     cut width rest      there is no line of so many bytes and a line feed: too few bytes are left, or the line feed is not in place
--     line width rest     the line's bytes before its line feed, where the line is there
--     after width rest    what is left then
use Rattle.std.specs.Prelude.{ℕ, ◌+◌, Bool, cond, not, ◌||◌, List, length, take, drop, Some, None, Option, ◌==◌, nat_le, slice_index}

abbrev pub cut : ℕ → List ℕ → Bool
cut width rest = nat_le (length rest) width || not (slice_index rest width == 10)

abbrev pub line : ℕ → List ℕ → Option (List ℕ)
line width rest = cond (cut width rest) None (Some (take width rest))

abbrev pub after : ℕ → List ℕ → List ℕ
after width rest = cond (cut width rest) rest (drop (width + 1) rest)
