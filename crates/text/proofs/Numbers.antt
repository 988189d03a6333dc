-- What reads as a number is that number as it is written.
use Rattle.std.proofs.Common.{◌≡◌, ℕ, ◌+◌, ◌-◌, ◌*◌, ◌%◌, ◌<◌, ◌≤◌, ◌⊎◌, List, [], ◌∷◌, length, Some, None, inl, inr, arith}
use Rattle.std.proofs.lemmas.Bool.Decides.{nat_tests}
use Rattle.text.specs.Decimal.{rest, parsed, written, column}

-- one more digit of a number that has begun
digit_more : (v b : ℕ) (bs : List ℕ) (n : ℕ) → rest (Some v) (b ∷ bs) ≡ Some n → (48 ≤ b) × (b ≤ 57) × (0 < v) × (rest (Some (v * 10 + (b - 48))) bs ≡ Some n)
digit_more v b bs n e = grind (arith, nat_tests)

-- a blank, or the first digit
first : (b : ℕ) (bs : List ℕ) (n : ℕ) → rest None (b ∷ bs) ≡ Some n → ((b ≡ 32) × (rest None bs ≡ Some n)) ⊎ ((48 ≤ b) × (b ≤ 57) × (rest (Some (b - 48)) bs ≡ Some n))
first b bs n e = grind (arith, nat_tests)

number_is : (v n : ℕ) → rest (Some v) [] ≡ Some n → v ≡ n
number_is v n e = cc

abbrev Is : ℕ → ℕ → ℕ → ℕ → ℕ → ℕ → Type 0
Is a b c d e n = (n < 100000) × (a ∷ b ∷ c ∷ d ∷ e ∷ [] ≡ written n)

-- five columns, each as it is written
columns : (a b c d e n : ℕ) → n < 100000 → a ≡ column n 10000 → b ≡ column n 1000 → c ≡ column n 100 → d ≡ column n 10 → e ≡ 48 + n % 10 → Is a b c d e n
columns a b c d e n h p q r s t = (h, cc)

abbrev Digit : ℕ → Type 0
Digit b = (48 ≤ b) × (b ≤ 57)

-- the number that begins in the last column, and so on to the first
last : (e n : ℕ) → Digit e → e - 48 ≡ n → Is 32 32 32 32 e n
last e n p h = columns 32 32 32 32 e n (omega arith) (grind (arith, nat_tests)) (grind (arith, nat_tests)) (grind (arith, nat_tests)) (grind (arith, nat_tests)) (omega arith)

two : (d e n : ℕ) → Digit d → Digit e → 0 < d - 48 → (d - 48) * 10 + (e - 48) ≡ n → Is 32 32 32 d e n
two d e n p q z h = columns 32 32 32 d e n (omega arith) (grind (arith, nat_tests)) (grind (arith, nat_tests)) (grind (arith, nat_tests)) (grind (arith, nat_tests)) (omega arith)

three : (c d e n : ℕ) → Digit c → Digit d → Digit e → 0 < c - 48 → ((c - 48) * 10 + (d - 48)) * 10 + (e - 48) ≡ n → Is 32 32 c d e n
three c d e n p q r z h = columns 32 32 c d e n (omega arith) (grind (arith, nat_tests)) (grind (arith, nat_tests)) (grind (arith, nat_tests)) (grind (arith, nat_tests)) (omega arith)

four : (b c d e n : ℕ) → Digit b → Digit c → Digit d → Digit e → 0 < b - 48 → (((b - 48) * 10 + (c - 48)) * 10 + (d - 48)) * 10 + (e - 48) ≡ n → Is 32 b c d e n
four b c d e n p q r s z h = columns 32 b c d e n (omega arith) (grind (arith, nat_tests)) (grind (arith, nat_tests)) (grind (arith, nat_tests)) (grind (arith, nat_tests)) (omega arith)

five : (a b c d e n : ℕ) → Digit a → Digit b → Digit c → Digit d → Digit e → 0 < a - 48 → ((((a - 48) * 10 + (b - 48)) * 10 + (c - 48)) * 10 + (d - 48)) * 10 + (e - 48) ≡ n → Is a b c d e n
five a b c d e n pa pb pc pd pe z h = columns a b c d e n (omega arith) (grind (arith, nat_tests)) (grind (arith, nat_tests)) (grind (arith, nat_tests)) (grind (arith, nat_tests)) (omega arith)

from_last : (e n : ℕ) → rest None (e ∷ []) ≡ Some n → Is 32 32 32 32 e n
from_last e n p = elim (first e [] n p) [
  | inl q ↦ let r : rest None [] ≡ Some n = q.1 in cc
  | inr q ↦ last e n (q.0, q.1) (number_is (e - 48) n q.2)
]

from_two : (d e n : ℕ) → rest None (d ∷ e ∷ []) ≡ Some n → Is 32 32 32 d e n
from_two d e n p = elim (first d (e ∷ []) n p) [
  | inl q ↦ rw q.0 (from_last e n q.1)
  | inr q ↦ let E = digit_more (d - 48) e ([]) n q.2 in two d e n (q.0, q.1) (E.0, E.1) E.2 (number_is ((d - 48) * 10 + (e - 48)) n E.3)
]

from_three : (c d e n : ℕ) → rest None (c ∷ d ∷ e ∷ []) ≡ Some n → Is 32 32 c d e n
from_three c d e n p = elim (first c (d ∷ e ∷ []) n p) [
  | inl q ↦ rw q.0 (from_two d e n q.1)
  | inr q ↦
      let D = digit_more (c - 48) d (e ∷ []) n q.2 in
      let E = digit_more ((c - 48) * 10 + (d - 48)) e ([]) n D.3 in
      three c d e n (q.0, q.1) (D.0, D.1) (E.0, E.1) D.2 (number_is (((c - 48) * 10 + (d - 48)) * 10 + (e - 48)) n E.3)
]

from_four : (b c d e n : ℕ) → rest None (b ∷ c ∷ d ∷ e ∷ []) ≡ Some n → Is 32 b c d e n
from_four b c d e n p = elim (first b (c ∷ d ∷ e ∷ []) n p) [
  | inl q ↦ rw q.0 (from_three c d e n q.1)
  | inr q ↦
      let C = digit_more (b - 48) c (d ∷ e ∷ []) n q.2 in
      let D = digit_more ((b - 48) * 10 + (c - 48)) d (e ∷ []) n C.3 in
      let E = digit_more (((b - 48) * 10 + (c - 48)) * 10 + (d - 48)) e ([]) n D.3 in
      four b c d e n (q.0, q.1) (C.0, C.1) (D.0, D.1) (E.0, E.1) C.2 (number_is ((((b - 48) * 10 + (c - 48)) * 10 + (d - 48)) * 10 + (e - 48)) n E.3)
]

from_five : (a b c d e n : ℕ) → rest None (a ∷ b ∷ c ∷ d ∷ e ∷ []) ≡ Some n → Is a b c d e n
from_five a b c d e n p = elim (first a (b ∷ c ∷ d ∷ e ∷ []) n p) [
  | inl q ↦ rw q.0 (from_four b c d e n q.1)
  | inr q ↦
      let B = digit_more (a - 48) b (c ∷ d ∷ e ∷ []) n q.2 in
      let C = digit_more ((a - 48) * 10 + (b - 48)) c (d ∷ e ∷ []) n B.3 in
      let D = digit_more (((a - 48) * 10 + (b - 48)) * 10 + (c - 48)) d (e ∷ []) n C.3 in
      let E = digit_more ((((a - 48) * 10 + (b - 48)) * 10 + (c - 48)) * 10 + (d - 48)) e ([]) n D.3 in
      five a b c d e n (q.0, q.1) (B.0, B.1) (C.0, C.1) (D.0, D.1) (E.0, E.1) B.2 (number_is (((((a - 48) * 10 + (b - 48)) * 10 + (c - 48)) * 10 + (d - 48)) * 10 + (e - 48)) n E.3)
]

pub one_spelling : (field : List ℕ) (n : ℕ) → length field ≡ 5 → parsed field ≡ Some n → (n < 100000) × (field ≡ written n)
one_spelling (a ∷ b ∷ c ∷ d ∷ e ∷ []) n h p = from_five a b c d e n p
one_spelling [] n h p = absurd (omega arith)
one_spelling (a ∷ []) n h p = absurd (omega arith)
one_spelling (a ∷ b ∷ []) n h p = absurd (omega arith)
one_spelling (a ∷ b ∷ c ∷ []) n h p = absurd (omega arith)
one_spelling (a ∷ b ∷ c ∷ d ∷ []) n h p = absurd (omega arith)
one_spelling (a ∷ b ∷ c ∷ d ∷ e ∷ f ∷ fs) n h p = absurd (omega arith)

pub reads_back : (n : ℕ) → n < 100000 → parsed (written n) ≡ Some n
reads_back n h = grind (arith, nat_tests)
