-- The digits of a number: what is put in, where the lowest is, and what trimming leaves.
use Rattle.std.proofs.Common.{◌≡◌, ℕ, zero, suc, ◌+◌, ◌-◌, ◌*◌, ◌/◌, ◌%◌, ◌^◌, ◌<◌, ◌≤◌, List, length, get_or, sym, ap, ◌∙◌, ⊎_elim, arith, length-set}
use lib.Bits.{bit_and, bit_or, and_step, and_self, and_le_r}
use Rattle.std.proofs.lemmas.List.{get_or-set_same, get_or-set_other, get_or_past}
use Rattle.std.proofs.lemmas.Bool.{cases_eq, cases_lt}
use Rattle.std.proofs.lemmas.Nat.Bits.{bit_at_lowest, bit_at-suc, bit_at-zero, bit_at_and, bit_at_or, bit_at-pow_same, bit_at-pow_other}
use Rattle.index.specs.Words.{digit, Has, with, trimmed, TrimmingIs, PuttingIs}

half_and : (x y : ℕ) → bit_and x y / 2 ≡ bit_and (x / 2) (y / 2)
half_and x y = omega (arith, and_step x y)

-- half of a trimmed number
half_odd : (n : ℕ) → n % 2 ≡ 1 → trimmed n / 2 ≡ n / 2
half_odd n e =
    let same : (n - 1) / 2 ≡ n / 2 = omega arith in
    half_and n (n - 1) ∙ ap (bit_and (n / 2)) same ∙ and_self (n / 2)

half_even : (n : ℕ) → n % 2 ≡ 0 → trimmed n / 2 ≡ trimmed (n / 2)
half_even n e =
    let same : (n - 1) / 2 ≡ n / 2 - 1 = omega arith in
    half_and n (n - 1) ∙ ap (bit_and (n / 2)) same

trim_kept : (j k n : ℕ) → j < k → digit j n ≡ 1 → digit k n ≡ 1 → digit k (trimmed n) ≡ 1
trim_kept j zero n h a b = absurd (omega arith)
trim_kept zero (suc k) n h a b =
    let odd : n % 2 ≡ 1 = sym (bit_at_lowest n) ∙ a in
    bit_at-suc (trimmed n) k ∙ ap (digit k) (half_odd n odd) ∙ sym (bit_at-suc n k) ∙ b
trim_kept (suc j) (suc k) n h a b =
    ⊎_elim
    (λ (e : n % 2 ≡ 0). bit_at-suc (trimmed n) k ∙ ap (digit k) (half_even n e) ∙ trim_kept j k (n / 2) (omega arith) (sym (bit_at-suc n j) ∙ a) (sym (bit_at-suc n k) ∙ b))
    (λ (e : n % 2 ≡ 0 → ⊥). bit_at-suc (trimmed n) k ∙ ap (digit k) (half_odd n (omega arith)) ∙ sym (bit_at-suc n k) ∙ b)
    (cases_eq (n % 2) 0)

Lower : ℕ → ℕ → Type 0
Lower k n = (j : ℕ) × (j < k) × (digit j n ≡ 1)

trim_lower : (k n : ℕ) → digit k (trimmed n) ≡ 1 → Lower k n
unfolding Lower
trim_lower zero n e =
    let z = bit_at_and n (n - 1) 0 in
    let a = bit_at_lowest n in
    let b = bit_at_lowest (n - 1) in
    absurd (omega arith)
trim_lower (suc k) n e =
    ⊎_elim
    (λ (z : n % 2 ≡ 0).
    let low = trim_lower k (n / 2) (sym (ap (digit k) (half_even n z)) ∙ sym (bit_at-suc (trimmed n) k) ∙ e) in
    (suc low.0, omega arith, bit_at-suc n low.0 ∙ low.2))
    (λ (z : n % 2 ≡ 0 → ⊥). (0, omega arith, bit_at_lowest n ∙ omega arith))
    (cases_eq (n % 2) 0)

trim_only : (k n : ℕ) → digit k (trimmed n) ≡ 1 → digit k n ≡ 1
trim_only k n e = let m = bit_at_and n (n - 1) k in omega arith

pub trimming_is : TrimmingIs
unfolding Lower
trimming_is = record { kept = λ n j k. trim_kept j k n; only = λ n k e. (trim_only k n e, trim_lower k n e) }

pub trim_less : (n : ℕ) → 0 < n → trimmed n < n
trim_less n h = let l = and_le_r n (n - 1) in omega arith

module _ (words : List ℕ) (i : ℕ) where
  word : ℕ
  word = bit_or (get_or words (i / 64) 0) (2 ^ (i % 64))

  -- the word of i, where there is one, and the others
  word_here : i / 64 < length words → get_or (with words i) (i / 64) 0 ≡ word
  unfolding word
  word_here h = get_or-set_same words (i / 64) word 0 h

  word_there : (j : ℕ) → (j / 64 ≡ i / 64 → ⊥) → get_or (with words i) (j / 64) 0 ≡ get_or words (j / 64) 0
  unfolding word
  word_there j ne = get_or-set_other words (i / 64) (j / 64) word 0 ne

  pub put_in : i / 64 < length words → Has (with words i) i
  unfolding word
  put_in h =
      let both = bit_at_or (get_or words (i / 64) 0) (2 ^ (i % 64)) (i % 64) in
      ap (digit (i % 64)) (word_here h) ∙ omega (arith, both, bit_at-pow_same (i % 64))

  pub put_kept : (j : ℕ) → Has words j → Has (with words i) j
  unfolding word
  put_kept j has =
      ⊎_elim
      (λ (e : j / 64 ≡ i / 64). ⊎_elim
      (λ (h : i / 64 < length words).
      let at : get_or (with words i) (j / 64) 0 ≡ word = ap (λ q. get_or (with words i) q 0) e ∙ word_here h in
      let both = bit_at_or (get_or words (i / 64) 0) (2 ^ (i % 64)) (j % 64) in
      let was : digit (j % 64) (get_or words (i / 64) 0) ≡ 1 = ap (λ q. digit (j % 64) (get_or words q 0)) (sym e) ∙ has in
      ap (digit (j % 64)) at ∙ omega arith)
      (λ (h : length words ≤ i / 64).
      let none : get_or words (j / 64) 0 ≡ 0 = get_or_past words (j / 64) 0 (omega arith) in
      let z = ap (digit (j % 64)) none ∙ bit_at-zero (j % 64) in
      absurd (omega arith))
      (cases_lt (i / 64) (length words)))
      (λ ne. ap (digit (j % 64)) (word_there j ne) ∙ has)
      (cases_eq (j / 64) (i / 64))

  pub put_only : (j : ℕ) → (j ≡ i → ⊥) → Has (with words i) j → Has words j
  unfolding word
  put_only j ne has =
      ⊎_elim
      (λ (e : j / 64 ≡ i / 64). ⊎_elim
      (λ (h : i / 64 < length words).
      let at : get_or (with words i) (j / 64) 0 ≡ word = ap (λ q. get_or (with words i) q 0) e ∙ word_here h in
      let both = bit_at_or (get_or words (i / 64) 0) (2 ^ (i % 64)) (j % 64) in
      let other : digit (j % 64) (2 ^ (i % 64)) ≡ 0 = bit_at-pow_other (i % 64) (j % 64) (λ q. ne (omega arith)) in
      let is : digit (j % 64) word ≡ 1 = ap (digit (j % 64)) (sym at) ∙ has in
      ap (λ q. digit (j % 64) (get_or words q 0)) e ∙ omega arith)
      (λ (h : length words ≤ i / 64).
      let none : get_or (with words i) (j / 64) 0 ≡ 0 = get_or_past (with words i) (j / 64) 0 (omega (arith, length-set words (i / 64) word)) in
      let z = ap (digit (j % 64)) none ∙ bit_at-zero (j % 64) in
      absurd (omega arith))
      (cases_lt (i / 64) (length words)))
      (λ apart. sym (ap (digit (j % 64)) (word_there j apart)) ∙ has)
      (cases_eq (j / 64) (i / 64))

pub putting_is : PuttingIs
putting_is = record { put = put_in; kept = put_kept; only = put_only }

-- the lowest number of those in the words from q on, where its word is k and its place there t
module _ (words : List ℕ) (q k t : ℕ) (from : q ≤ k) (empty : (w : ℕ) → q ≤ w → w < k → get_or words w 0 ≡ 0) where
  pub lowest_is : t < 64 → digit t (get_or words k 0) ≡ 1 → ((j : ℕ) → j < t → digit j (get_or words k 0) ≡ 0) → (64 * q ≤ 64 * k + t) × Has words (64 * k + t) × ((j : ℕ) → 64 * q ≤ j → Has words j → 64 * k + t ≤ j)
  lowest_is low one below =
      let n = get_or words k 0 in
      let word : (64 * k + t) / 64 ≡ k = omega arith in
      let place : (64 * k + t) % 64 ≡ t = omega arith in (
        omega arith,
        ap (λ w. digit ((64 * k + t) % 64) (get_or words w 0)) word ∙ ap (λ x. digit x n) place ∙ one,
        (λ j h has. ⊎_elim
            (λ (less : j < 64 * k + t). ⊎_elim
            (λ (here : j / 64 ≡ k).
            let z : digit (j % 64) n ≡ 0 = below (j % 64) (omega arith) in
            let o : digit (j % 64) n ≡ 1 = ap (λ w. digit (j % 64) (get_or words w 0)) (sym here) ∙ has in
            absurd (omega arith))
            (λ (ne : j / 64 ≡ k → ⊥).
            let none : get_or words (j / 64) 0 ≡ 0 = empty (j / 64) (omega arith) (omega arith) in
            let z = ap (digit (j % 64)) none ∙ bit_at-zero (j % 64) in
            absurd (omega arith))
            (cases_eq (j / 64) k))
            (λ (more : 64 * k + t ≤ j). more)
            (cases_lt j (64 * k + t))),
      )

-- no word from q on has a number
pub none_from : (words : List ℕ) (q : ℕ) → ((w : ℕ) → q ≤ w → w < length words → get_or words w 0 ≡ 0) → (j : ℕ) → 64 * q ≤ j → Has words j → ⊥
none_from words q empty j h has =
    let none : get_or words (j / 64) 0 ≡ 0 = ⊎_elim (λ l. empty (j / 64) (omega arith) l) (λ l. get_or_past words (j / 64) 0 l) (cases_lt (j / 64) (length words)) in
    let z = ap (digit (j % 64)) none ∙ bit_at-zero (j % 64) in
    absurd (omega arith)
