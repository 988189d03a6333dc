-- Places and chains.
use Rattle.std.proofs.Common.{◌≡◌, ℕ, zero, suc, ◌+◌, ◌<◌, ◌≤◌, eqb, List, [], ◌∷◌, map, length, get_or, drop, set, sym, refl, ap, ◌∙◌, subst, ⊎_elim, arith, length-set}
use Rattle.std.proofs.lemmas.List.{drop-map, drop_more, drop_all, drop-drop, get_or-drop, length-drop, get_or-set_same, get_or-set_other}
use Rattle.std.proofs.lemmas.Bool.{eq-eqb, ne_eqb, cond-true, cond-false, cases_eq, cases_lt}
use Rattle.index.specs.Chains.{before, place, Chained, places, Follows, out, through, ChainsList}

module _ (keys : List ℕ) (s i : ℕ) where
  place_here : i < length keys → get_or keys i 0 ≡ s → place keys s i ≡ i
  place_here h e =
      let z : before s (drop i keys) ≡ 0 = ap (before s) (drop_more keys i 0 h) ∙ cond-true (eqb (get_or keys i 0) s) 0 (1 + before s (drop (i + 1) keys)) (eq-eqb (get_or keys i 0) s e) in
      omega arith

  place_past : i < length keys → (get_or keys i 0 ≡ s → ⊥) → place keys s i ≡ place keys s (i + 1)
  place_past h n =
      let z : before s (drop i keys) ≡ 1 + before s (drop (i + 1) keys) = ap (before s) (drop_more keys i 0 h) ∙ cond-false (eqb (get_or keys i 0) s) 0 (1 + before s (drop (i + 1) keys)) (ne_eqb (get_or keys i 0) s n) in
      omega arith

  pub place_end : length keys ≤ i → place keys s i ≡ i
  place_end h =
      let z : before s (drop i keys) ≡ 0 = ap (before s) (drop_all i keys h) in
      omega arith

-- one more place is chained
pub linked : (j i key : ℕ) (keys first next firsts nexts : List ℕ) → j ≡ i + 1 → i < length keys → i < length next → get_or keys i 0 ≡ key → key < length first → Chained j keys first next → firsts ≡ set first key i → nexts ≡ set next i (get_or first key 0) → Chained i keys firsts nexts
linked j i key keys first next firsts nexts ej h l ek f c ef en =
    let started : (s : ℕ) → s < length first → get_or first s 0 ≡ place keys s (i + 1) = λ s b. c.starts s b ∙ ap (place keys s) ej in
    record {
      starts = λ s b. ap (λ xs. get_or xs s 0) ef ∙ ⊎_elim
          (λ (e : s ≡ key). ap (λ k. get_or (set first key i) k 0) e ∙ get_or-set_same first key i 0 f ∙ sym (place_here keys s i h (ek ∙ sym e)))
          (λ (n : s ≡ key → ⊥). get_or-set_other first key s i 0 n ∙ started s (omega (arith, ap length ef, length-set first key i)) ∙ sym (place_past keys s i h (λ e. n (sym e ∙ ek))))
          (cases_eq s key);
      goes_on = λ k a b. ap (λ xs. get_or xs k 0) en ∙ ⊎_elim
          (λ (e : k ≡ i). ap (λ x. get_or (set next i (get_or first key 0)) x 0) e ∙ get_or-set_same next i (get_or first key 0) 0 l ∙ started key f ∙ ap (λ x. place keys x (i + 1)) (sym ek) ∙ ap (λ x. place keys (get_or keys x 0) (x + 1)) (sym e))
          (λ (n : k ≡ i → ⊥). get_or-set_other next i k (get_or first key 0) 0 n ∙ c.goes_on k (omega arith) b)
          (cases_eq k i);
    }

-- no place is chained yet
pub unlinked : (keys first next : List ℕ) (n : ℕ) → length keys ≤ n → ((s : ℕ) → s < length first → get_or first s 0 ≡ n) → Chained n keys first next
unlinked keys first next n h empty = record {
  starts = λ s b. empty s b ∙ sym (place_end keys s n h);
  goes_on = λ k a b. absurd (omega arith);
}

-- the key in the place of s is s
before_key : (s : ℕ) (keys : List ℕ) → before s keys < length keys → get_or keys (before s keys) 0 ≡ s
before_key s [] h = absurd (omega arith)
before_key s (k ∷ ks) h =
    ⊎_elim
    (λ (e : k ≡ s). let z = cond-true (eqb k s) 0 (1 + before s ks) (eq-eqb k s e) in ap (λ j. get_or (k ∷ ks) j 0) z ∙ e)
    (λ (n : k ≡ s → ⊥).
    let z = cond-false (eqb k s) 0 (1 + before s ks) (ne_eqb k s n) in
    let y : before s (k ∷ ks) ≡ suc (before s ks) = omega arith in
    ap (λ j. get_or (k ∷ ks) j 0) y ∙ before_key s ks (omega arith))
    (cases_eq k s)

pub place_key : (keys : List ℕ) (s i v : ℕ) → v ≡ place keys s i → v < length keys → get_or keys v 0 ≡ s
place_key keys s i v e h =
    ap (λ x. get_or keys x 0) e ∙ sym (get_or-drop i keys (before s (drop i keys)) 0) ∙ before_key s (drop i keys) (omega (arith, length-drop i keys))

-- what skips every element whose key is not s goes on from the place of s
module _ {R Y : Type 0} (f : R → ℕ) (s : ℕ) (F : List R → Y) (skip : (r : R) (rs : List R) → (f r ≡ s → ⊥) → F (r ∷ rs) ≡ F rs) where
  at_before : (rs : List R) → F rs ≡ F (drop (before s (map f rs)) rs)
  at_before [] = refl
  at_before (r ∷ rs) =
      ⊎_elim
      (λ (e : f r ≡ s). let z = cond-true (eqb (f r) s) 0 (1 + before s (map f rs)) (eq-eqb (f r) s e) in ap (λ j. F (drop j (r ∷ rs))) (sym z))
      (λ (n : f r ≡ s → ⊥).
      let z = cond-false (eqb (f r) s) 0 (1 + before s (map f rs)) (ne_eqb (f r) s n) in
      let y : before s (map f (r ∷ rs)) ≡ suc (before s (map f rs)) = omega arith in
      skip r rs n ∙ at_before rs ∙ ap (λ j. F (drop j (r ∷ rs))) (sym y))
      (cases_eq (f r) s)

  pub at_place : (rs : List R) (i : ℕ) → F (drop i rs) ≡ F (drop (place (map f rs) s i) rs)
  at_place rs i =
      at_before (drop i rs)
      ∙ ap (λ ks. F (drop (before s ks) (drop i rs))) (sym (drop-map f i rs))
      ∙ ap F (drop-drop (before s (drop i (map f rs))) i rs)

-- the places of s from i on, by the chain
module _ (keys next : List ℕ) (s : ℕ) (goes_on : (k : ℕ) → 0 ≤ k → k < length keys → get_or next k 0 ≡ place keys (get_or keys k 0) (k + 1)) where
  rest : ℕ → List ℕ
  rest i = places i s (drop i keys)

  -- fuel: how many places are left
  follow : (fuel i k : ℕ) → length keys ≤ i + fuel → k ≡ place keys s i → Follows next (length keys) k (rest i)
  unfolding rest
  follow zero i k h e =
      let P : List ℕ → Type 0 = Follows next (length keys) k in
      subst P (sym (ap (places i s) (drop_all i keys (omega arith)))) (out (omega (arith, place_end keys s i (omega arith))))
  follow (suc fuel) i k h e =
      ⊎_elim
      (λ (b : i < length keys). ⊎_elim
      (λ (q : get_or keys i 0 ≡ s).
      let P : List ℕ → Type 0 = Follows next (length keys) k in
      let here : k ≡ i = e ∙ place_here keys s i b q in
      let on : get_or next k 0 ≡ place keys s (i + 1) = ap (λ j. get_or next j 0) here ∙ goes_on i (omega arith) b ∙ ap (λ x. place keys x (i + 1)) q in
      let list : k ∷ rest (i + 1) ≡ rest i = ap (λ j. j ∷ rest (i + 1)) here ∙ sym (ap (places i s) (drop_more keys i 0 b) ∙ cond-true (eqb (get_or keys i 0) s) _ _ (eq-eqb (get_or keys i 0) s q)) in
      subst P list (through (omega arith) (follow fuel (i + 1) (get_or next k 0) (omega arith) on)))
      (λ (q : get_or keys i 0 ≡ s → ⊥).
      let P : List ℕ → Type 0 = Follows next (length keys) k in
      subst P (sym (ap (places i s) (drop_more keys i 0 b) ∙ cond-false (eqb (get_or keys i 0) s) _ _ (ne_eqb (get_or keys i 0) s q))) (follow fuel (i + 1) k (omega arith) (e ∙ place_past keys s i b q)))
      (cases_eq (get_or keys i 0) s))
      (λ (b : length keys ≤ i).
      let P : List ℕ → Type 0 = Follows next (length keys) k in
      subst P (sym (ap (places i s) (drop_all i keys b))) (out (omega (arith, place_end keys s i b))))
      (cases_lt i (length keys))

pub chains_list : ChainsList
unfolding rest
chains_list keys first next s c h = follow keys next s c.goes_on (length keys) 0 (get_or first s 0) (omega arith) (c.starts s h)
