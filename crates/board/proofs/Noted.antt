-- The set of active statements: what keeps it so, and what its words say.
use Rattle.std.proofs.Common.{◌≡◌, ℕ, ◌*◌, ◌/◌, ◌%◌, ◌<◌, ◌≤◌, false, List, length, sum, get_or, set, replicate, sym, ap, ◌∙◌, ⊎_elim, arith}
use lib.ListN.{length-replicate}
use Rattle.std.proofs.lemmas.List.{get_or-set_same, get_or-set_other, get_or_past, get_or-replicate}
use Rattle.std.proofs.lemmas.List.Sums.{sum_by-set}
use Rattle.std.proofs.lemmas.Bool.{both_ways, cases_Bool, cases_eq, cases_lt}
use Rattle.scales.specs.Meaning.{Meaning}
use Rattle.index.specs.Words.{digit, Has, trimmed}
use Rattle.index.proofs.Digits.{trimming_is, trim_less}
use Rattle.std.proofs.lemmas.Nat.Bits.{bit_at-zero}
use Rattle.pasts.specs.Marks.{active}
use Rattle.pasts.specs.Tables.{unopened}
use Rattle.pasts.specs.declared.statement.Statement.{Statement}
use Rattle.board.specs.Indexed.{Noted, Resting}

-- a number in the set has a word, which is not 0
pub word_of : (words : List ℕ) (i : ℕ) → Has words i → (i / 64 < length words) × (0 < get_or words (i / 64) 0)
word_of words i has =
    let some : get_or words (i / 64) 0 ≡ 0 → ⊥ = λ z. let none = ap (digit (i % 64)) z ∙ bit_at-zero (i % 64) in absurd (omega arith) in (
      ⊎_elim (λ (l : i / 64 < length words). l) (λ (l : length words ≤ i / 64). absurd (some (get_or_past words (i / 64) 0 l))) (cases_lt (i / 64) (length words)),
      ⊎_elim (λ z. absurd (some z)) (λ z. omega arith) (cases_eq (get_or words (i / 64) 0) 0),
    )

-- taking a number out makes the words less
pub sum_falls : (words : List ℕ) (i : ℕ) → Has words i → sum (set words (i / 64) (trimmed (get_or words (i / 64) 0))) < sum words
sum_falls words i has =
    let at = word_of words i has in
    let less = trim_less (get_or words (i / 64) 0) at.1 in
    omega (arith, sum_by-set (λ x. x) words (i / 64) (trimmed (get_or words (i / 64) 0)) 0 at.0)

module _ {G : Type 0} (m : Meaning G) where
  module _ (xs : List (Statement G)) where
    past_end : (i : ℕ) → length xs ≤ i → active (get_or xs i (unopened m)).mark ≡ false
    past_end i h = ap (λ y. active y.mark) (get_or_past xs i (unopened m) h)

    -- below the lowest number from the word q on nothing is active
    pub rests_to : (words : List ℕ) (q i : ℕ) → Noted m words xs → Resting m (64 * q) xs → ((j : ℕ) → 64 * q ≤ j → Has words j → i ≤ j) → Resting m i xs
    rests_to words q i noted rests least j h =
        ⊎_elim
        (λ (low : j < 64 * q). rests j low)
        (λ (high : 64 * q ≤ j). ⊎_elim
        (λ (on : j < length xs). ⊎_elim
        (λ a. let more = least j high (noted j on a) in absurd (omega arith))
        (λ a. a)
        (cases_Bool (active (get_or xs j (unopened m)).mark)))
        (λ (off : length xs ≤ j). past_end j off)
        (cases_lt j (length xs)))
        (cases_lt j (64 * q))

    -- nothing is active where there is no number from the word q on
    pub rests_all : (words : List ℕ) (q : ℕ) → Noted m words xs → Resting m (64 * q) xs → ((j : ℕ) → 64 * q ≤ j → Has words j → ⊥) → (j : ℕ) → j < length xs → active (get_or xs j (unopened m)).mark ≡ false
    rests_all words q noted rests none j on =
        ⊎_elim
        (λ (low : j < 64 * q). rests j low)
        (λ (high : 64 * q ≤ j). ⊎_elim
        (λ a. absurd (none j high (noted j on a)))
        (λ a. a)
        (cases_Bool (active (get_or xs j (unopened m)).mark)))
        (cases_lt j (64 * q))

    -- the lowest number from the word q on leaves the set, since it is not active
    pub noted_less : (words : List ℕ) (q i : ℕ) → Noted m words xs → 64 * q ≤ i → Has words i → ((j : ℕ) → 64 * q ≤ j → Has words j → i ≤ j) → (i < length xs → active (get_or xs i (unopened m)).mark ≡ false) → Noted m (set words (i / 64) (trimmed (get_or words (i / 64) 0))) xs
    noted_less words q i noted from has least idle j h a =
        let was = noted j h a in
        let word = get_or words (i / 64) 0 in
        ⊎_elim
        (λ (at : j / 64 ≡ i / 64).
        let apart : j ≡ i → ⊥ = λ e. both_ways (active (get_or xs j (unopened m)).mark) (ap (λ k. active (get_or xs k (unopened m)).mark) e ∙ idle (omega arith)) a in
        let above = least j (omega arith) was in
        let here : digit (j % 64) word ≡ 1 = ap (λ k. digit (j % 64) (get_or words k 0)) (sym at) ∙ was in
        ap (λ k. digit (j % 64) (get_or (set words (i / 64) (trimmed word)) k 0)) at ∙ ap (digit (j % 64)) (get_or-set_same words (i / 64) (trimmed word) 0 (word_of words i has).0) ∙ trimming_is.kept word (i % 64) (j % 64) (omega arith) has here)
        (λ ne. ap (digit (j % 64)) (get_or-set_other words (i / 64) (j / 64) (trimmed word) 0 ne) ∙ was)
        (cases_eq (j / 64) (i / 64))

-- an empty set has no number
pub none_in : (words : List ℕ) → words ≡ replicate 16 0 → (i : ℕ) → Has words i → ⊥
none_in words e i has =
    let zero : get_or words (i / 64) 0 ≡ 0 = ap (λ l. get_or l (i / 64) 0) e ∙ ⊎_elim (λ h. get_or-replicate 16 (i / 64) 0 0 h) (λ h. get_or_past (replicate 16 0) (i / 64) 0 (rw length-replicate h)) (cases_lt (i / 64) 16) in
    let none = ap (digit (i % 64)) zero ∙ bit_at-zero (i % 64) in
    omega arith
