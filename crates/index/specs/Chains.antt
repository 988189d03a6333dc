-- How what has a given key is found without a scan: places with one key, chained in rising order. Assumes nothing.
--     before s keys               how many of the keys stand before the first s; all of them where there is none
--     place keys s i              the first place at i or after it whose key is s; the number of keys where there is none
--     Chained i keys first next   for each s, `first` has the first place at i or after it whose key is s, and for each such place `next`
--                                 has the following one with the same key
--     places i s keys             the places of the keys s in rising order, the first key being in the place i
--     Follows next n k ks         from the place k on `next` leads through the places ks, and then out of the n places
--     ChainsList                  from first to last, a chain leads through exactly the places with its key, in rising order
use Rattle.std.specs.Prelude.{◌≡◌, ℕ, ◌+◌, ◌<◌, ◌≤◌, cond, List, [], ◌∷◌, length, drop, ◌==◌, slice_index}

abbrev pub before : ℕ → List ℕ → ℕ
before s [] = 0
before s (k ∷ ks) = cond (k == s) 0 (1 + before s ks)

abbrev pub place : List ℕ → ℕ → ℕ → ℕ
place keys s i = i + before s (drop i keys)

pub record Chained (i : ℕ) (keys first next : List ℕ) : Type 0 where
  pub starts : (s : ℕ) → s < length first → slice_index first s ≡ place keys s i
  pub goes_on : (k : ℕ) → i ≤ k → k < length keys → slice_index next k ≡ place keys (slice_index keys k) (k + 1)

abbrev pub places : ℕ → ℕ → List ℕ → List ℕ
places i s [] = []
places i s (k ∷ ks) = cond (k == s) (i ∷ places (i + 1) s ks) (places (i + 1) s ks)

pub data Follows (next : List ℕ) (n : ℕ) : ℕ → List ℕ → Type 0 where
  out : {k : ℕ} → n ≤ k → Follows next n k []
  through : {k : ℕ} {ks : List ℕ} → k < n → Follows next n (slice_index next k) ks → Follows next n k (k ∷ ks)

abbrev pub ChainsList : Type 0
ChainsList =
    (keys first next : List ℕ) (s : ℕ) → Chained 0 keys first next → s < length first → Follows next (length keys) (slice_index first s) (places 0 s keys)
