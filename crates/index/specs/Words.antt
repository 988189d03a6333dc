-- A set of numbers, held as the binary digits of words of 64. Assumes nothing.
--     digit k n           digit k of the number n, which is 0 or 1
--     Has words i         i is in the set: digit i % 64 of the word i / 64 is 1
--     member words i      whether it is
--     with words i        the words once i is put in, where there is a word for it
--     trimmed n           n without its lowest digit that is 1
--     TrimmingIs          what is left of a number by trimming: the digits that stand above another one that is 1
--     PuttingIs           what putting a number in does: it is in the set then, and the others are as they were
use Rattle.std.specs.Prelude.{◌≡◌, ℕ, ◌-◌, ◌/◌, ◌%◌, ◌^◌, ◌<◌, Bool, List, length, ◌==◌, ◌≢◌, bit_and, bit_or, slice_index, slice_set}

abbrev pub digit : ℕ → ℕ → ℕ
digit k n = n / 2 ^ k % 2

abbrev pub Has : List ℕ → ℕ → Type 0
Has words i = digit (i % 64) (slice_index words (i / 64)) ≡ 1

abbrev pub member : List ℕ → ℕ → Bool
member words i = digit (i % 64) (slice_index words (i / 64)) == 1

abbrev pub with : List ℕ → ℕ → List ℕ
with words i = slice_set words (i / 64) (bit_or (slice_index words (i / 64)) (2 ^ (i % 64)))

abbrev pub trimmed : ℕ → ℕ
trimmed n = bit_and n (n - 1)

pub record TrimmingIs : Type 0 where
  pub kept : (n j k : ℕ) → j < k → digit j n ≡ 1 → digit k n ≡ 1 → digit k (trimmed n) ≡ 1
  pub only : (n k : ℕ) → digit k (trimmed n) ≡ 1 → (digit k n ≡ 1) × ((j : ℕ) × (j < k) × (digit j n ≡ 1))

pub record PuttingIs : Type 0 where
  pub put : (words : List ℕ) (i : ℕ) → i / 64 < length words → Has (with words i) i
  pub kept : (words : List ℕ) (i j : ℕ) → Has words j → Has (with words i) j
  pub only : (words : List ℕ) (i j : ℕ) → (j ≢ i) → Has (with words i) j → Has words j
