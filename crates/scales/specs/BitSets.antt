-- Numbers as sets of binary digits. Assumes nothing.
--     Within d a b        below place d, each digit of a is at most b's
--     ranked              within, a number is the other or has fewer digits set
--     same_bits           numbers within each other are one
--     and_within, within_and   within is what the conjunction tests
use Rattle.std.specs.Prelude.{◌≡◌, ℕ, zero, suc, ◌/◌, ◌%◌, ◌^◌, ◌<◌, ◌≤◌, ◌⊎◌, ◌≢◌, count_ones}
use Rattle.std.proofs.Common.{ap, inl, inr, ⊎_elim, pow-suc, arith}
use Rattle.std.specs.Int.{bit_at}
use Rattle.std.specs.Int.Bits.{bit_and}
use Rattle.std.specs.Int.Count.{ones_step}
use Rattle.std.proofs.lemmas.Nat.{and_le_l}
use Rattle.std.proofs.lemmas.Nat.Bits.{bit_at_lowest, bit_at-suc, bit_at_and, same_from_bits_below}
use Rattle.std.proofs.lemmas.Bool.{cases_eq}

abbrev pub Within : ℕ → ℕ → ℕ → Type 0
Within d a b = (k : ℕ) → k < d → bit_at a k ≤ bit_at b k

half_below : (d n : ℕ) → n < 2 ^ suc d → n / 2 < 2 ^ d
half_below d n h = omega (arith, pow-suc 2 d)

half_within : (d a b : ℕ) → Within (suc d) a b → Within d (a / 2) (b / 2)
half_within d a b w k h = omega (arith, w (suc k) (omega arith), bit_at-suc a k, bit_at-suc b k)

pub ranked : (d a b : ℕ) → a < 2 ^ d → b < 2 ^ d → Within d a b → (a ≡ b) ⊎ (count_ones a < count_ones b)
ranked zero a b p q w = inl (omega arith)
ranked (suc d) a b p q w =
    ⊎_elim same fewer (ranked d (a / 2) (b / 2) (half_below d a p) (half_below d b q) (half_within d a b w))
  where
    low : a % 2 ≤ b % 2
    low = omega (arith, w 0 (omega arith), bit_at_lowest a, bit_at_lowest b)

    fewer : count_ones (a / 2) < count_ones (b / 2) → (a ≡ b) ⊎ (count_ones a < count_ones b)
    fewer h = let l = low in inr (omega (arith, ones_step a, ones_step b))

    same : a / 2 ≡ b / 2 → (a ≡ b) ⊎ (count_ones a < count_ones b)
    same e = ⊎_elim (λ f. inl (omega arith)) strict (cases_eq (a % 2) (b % 2))
      where
        strict : (a % 2 ≢ b % 2) → (a ≡ b) ⊎ (count_ones a < count_ones b)
        strict n = let l = low in let o = ap count_ones e in inr (omega (arith, ones_step a, ones_step b))

pub same_bits : (d a b : ℕ) → a < 2 ^ d → b < 2 ^ d → Within d a b → Within d b a → a ≡ b
same_bits d a b p q v w = same_from_bits_below d a b p q (λ k h. omega (arith, v k h, w k h))

pub and_within : (d a b : ℕ) → a < 2 ^ d → Within d a b → bit_and a b ≡ a
and_within d a b p w =
    let l = and_le_l a b in same_from_bits_below d (bit_and a b) a (omega arith) p (λ k h. omega (arith, bit_at_and a b k, w k h))

pub within_and : (d a b : ℕ) → bit_and a b ≡ a → Within d a b
within_and d a b e k h = omega (arith, bit_at_and a b k, ap (λ n. bit_at n k) e)
