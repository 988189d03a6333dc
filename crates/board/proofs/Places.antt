-- The places of rules, n to a rule: what stands in each, and which rules have a key.
use Rattle.std.proofs.Common.{◌≡◌, ℕ, suc, ◌+◌, ◌-◌, ◌*◌, ◌/◌, ◌<◌, ◌≤◌, Bool, true, false, cond, eqb, List, [], ◌∷◌, ◌++◌, length, get_or, drop, sym, refl, ap, ◌∙◌, ⊎_elim, arith, length-append}
use Rattle.std.specs.List.{range_with_len}
use Rattle.std.proofs.Math.Nat.{div-lt_iff_lt-mul, add-div_left, div-eq_of_lt}
use Rattle.std.proofs.lemmas.List.{length-map, get_or-map, drop_more, drop_all, get_or_append_left, get_or-append_right}
use Rattle.std.proofs.lemmas.List.FromFn.{length-range_with_len, length-map-range_with_len}
use Rattle.std.proofs.lemmas.Bool.{eq-eqb, ne_eqb, cond-true, cond-false, cases_lt}
use Rattle.scales.specs.Meaning.{Meaning}
use Rattle.model.specs.Rules.{present, joined, value}
use Rattle.model.specs.declared.rule.Rule.{Rule}
use Rattle.index.specs.Chains.{place}
use Rattle.index.specs.Uses.{heads, use_by, uses, used, users}
use Rattle.index.proofs.Chains.{at_place, place_key}
use Rattle.board.specs.Telling.{sons}
use Rattle.board.specs.Indexed.{key, places_of, keyed, keys, chosen}

module _ {G : Type 0} (n : ℕ) where
  pub length_keyed : (rs : List (Rule G)) → length (keyed n rs) ≡ length rs * n
  length_keyed [] = omega arith
  length_keyed (r ∷ rs) =
      let a = length-append (places_of n r (range_with_len 0 n)) (keyed n rs) in
      let b : length (places_of n r (range_with_len 0 n)) ≡ n = length-map-range_with_len (λ j. (key n r j, r)) 0 n in
      let c = length_keyed rs in
      let m : suc (length rs) * n ≡ n + length rs * n = omega arith in
      omega arith

  pub length_keys : (rs : List (Rule G)) → length (keys n rs) ≡ length (keyed n rs)
  length_keys rs = length-map (keyed n rs) (λ p. p.0)

  module _ (pos : 0 < n) (rs : List (Rule G)) (k : ℕ) where
    pub inside : k / n < length rs → k < length (keyed n rs)
    inside h = let a = (div-lt_iff_lt-mul pos).0 h in let b = length_keyed rs in omega arith

    pub outside : length rs ≤ k / n → length (keyed n rs) ≤ k
    outside h =
        let b = length_keyed rs in
        ⊎_elim
        (λ (l : k < length rs * n). let a = (div-lt_iff_lt-mul {y = length rs} pos).1 l in absurd (omega arith))
        (λ (l : length rs * n ≤ k). omega arith)
        (cases_lt k (length rs * n))

  pub rule_at : 0 < n → (rs : List (Rule G)) (k : ℕ) (d : Rule G) (p : ℕ × Rule G) → k / n < length rs → (get_or (keyed n rs) k p).1 ≡ get_or rs (k / n) d
  rule_at pos [] k d p h = absurd (omega arith)
  rule_at pos (r ∷ rs) k d p h =
      let js = range_with_len 0 n in
      let long : length (places_of n r js) ≡ n = length-map-range_with_len (λ j. (key n r j, r)) 0 n in
      ⊎_elim
      (λ (l : k < n).
      let first : k / n ≡ 0 = div-eq_of_lt l in
      ap (λ x. x.1) (get_or_append_left (places_of n r js) (keyed n rs) p k (omega arith))
      ∙ ap (λ x. x.1) (get_or-map (λ j. (key n r j, r)) js k 0 p (omega (arith, length-range_with_len 0 n)))
      ∙ ap (λ q. get_or (r ∷ rs) q d) (sym first))
      (λ (l : n ≤ k).
      let back : n + (k - n) ≡ k = omega arith in
      let row : k / n ≡ suc ((k - n) / n) = ap (λ x. x / n) (sym back) ∙ add-div_left (k - n) pos ∙ omega arith in
      ap (λ x. x.1) (get_or-append_right (places_of n r js) (keyed n rs) n k p long l)
      ∙ rule_at pos rs (k - n) d p (omega arith)
      ∙ ap (λ q. get_or (r ∷ rs) q d) (sym row))
      (cases_lt k n)

  -- the rules with the key s, by a chain
  module _ (rs : List (Rule G)) (s : ℕ) where
    left : ℕ → List (Rule G)
    left k = chosen s (drop k (keyed n rs))

    onward : (i : ℕ) → left i ≡ left (place (keys n rs) s i)
    unfolding left
    onward i = at_place (λ p. p.0) s (chosen s) (λ p ps ne. cond-false (eqb p.0 s) _ _ (ne_eqb p.0 s ne)) (keyed n rs) i

    pub chosen_first : (v : ℕ) → v ≡ place (keys n rs) s 0 → chosen s (drop v (keyed n rs)) ≡ chosen s (keyed n rs)
    unfolding left
    chosen_first v e = ap (λ k. chosen s (drop k (keyed n rs))) e ∙ sym (onward 0)

    pub chosen_none : 0 < n → (k : ℕ) → length rs ≤ k / n → chosen s (drop k (keyed n rs)) ≡ []
    chosen_none pos k h = ap (chosen s) (drop_all k (keyed n rs) (outside pos rs k h))

    pub chosen_more : 0 < n → (k v : ℕ) (d : Rule G) → k / n < length rs → get_or (keys n rs) k 0 ≡ s → v ≡ place (keys n rs) (get_or (keys n rs) k 0) (k + 1) → chosen s (drop k (keyed n rs)) ≡ get_or rs (k / n) d ∷ chosen s (drop v (keyed n rs))
    unfolding left
    chosen_more pos k v d h its next =
        let p : ℕ × Rule G = (0, d) in
        let x = get_or (keyed n rs) k p in
        let l = inside pos rs k h in
        let at : x.0 ≡ s = sym (get_or-map (λ q. q.0) (keyed n rs) k p 0 l) ∙ its in
        ap (chosen s) (drop_more (keyed n rs) k p l)
        ∙ cond-true (eqb x.0 s) (x.1 ∷ chosen s (drop (k + 1) (keyed n rs))) (chosen s (drop (k + 1) (keyed n rs))) (eq-eqb x.0 s at)
        ∙ ap (λ r. r ∷ chosen s (drop (k + 1) (keyed n rs))) (rule_at pos rs k d p h)
        ∙ ap (λ l. get_or rs (k / n) d ∷ l) (onward (k + 1) ∙ ap (λ j. chosen s (drop j (keyed n rs))) (sym (next ∙ ap (λ y. place (keys n rs) y (k + 1)) its)))

    pub key_at : (i v : ℕ) → v ≡ place (keys n rs) s i → v < length (keyed n rs) → get_or (keys n rs) v 0 ≡ s
    key_at i v e h = place_key (keys n rs) s i v e (omega (arith, length_keys rs))

module _ {G : Type 0} where
  pub keys_one : (rs : List (Rule G)) → keys 1 rs ≡ heads rs
  keys_one [] = refl
  keys_one (r ∷ rs) = ap (λ l. r.head ∷ l) (keys_one rs)

  pub keys_four : (rs : List (Rule G)) → keys 4 rs ≡ used (uses rs)
  keys_four [] = refl
  keys_four (r ∷ rs) =
      ap (λ l. (use_by 0 r).son ∷ (use_by 1 r).son ∷ (use_by 2 r).son ∷ (use_by 3 r).son ∷ l) (keys_four rs)

  -- what a scan over all rules gives, of the rules chosen
  abbrev pub bodies_of : List (Rule G) → List ℕ
  bodies_of [] = []
  bodies_of (r ∷ rs) = present r.bodies ++ bodies_of rs

  sons_one : (t : Bool) (r : Rule G) (X : List ℕ) (Y : List (Rule G)) → X ≡ bodies_of Y → cond t (present r.bodies ++ X) X ≡ bodies_of (cond t (r ∷ Y) Y)
  sons_one true r X Y e = ap (λ l. present r.bodies ++ l) e
  sons_one false r X Y e = e

  pub sons_chosen : (s : ℕ) (rs : List (Rule G)) → sons rs s ≡ bodies_of (chosen s (keyed 1 rs))
  sons_chosen s [] = refl
  sons_chosen s (r ∷ rs) = sons_one (eqb r.head s) r (sons rs s) (chosen s (keyed 1 rs)) (sons_chosen s rs)

  users_one : (t : Bool) (r : Rule G) (X : List ℕ) (Y : List (Rule G)) → X ≡ heads Y → cond t (r.head ∷ X) X ≡ heads (cond t (r ∷ Y) Y)
  users_one true r X Y e = ap (λ l. r.head ∷ l) e
  users_one false r X Y e = e

  pub users_chosen : (s : ℕ) (rs : List (Rule G)) → users (uses rs) s ≡ heads (chosen s (keyed 4 rs))
  users_chosen s [] = refl
  users_chosen s (r ∷ rs) =
      let b = λ (j : ℕ). eqb (use_by j r).son s in
      users_one (b 0) r _ _ (users_one (b 1) r _ _ (users_one (b 2) r _ _ (users_one (b 3) r _ _ (users_chosen s rs))))

module _ {G : Type 0} (m : Meaning G) (grade : ℕ → G) where
  abbrev pub join_all : G → List (Rule G) → G
  join_all g [] = g
  join_all g (r ∷ rs) = join_all (m.join g (value m grade r)) rs

  joined_one : (t : Bool) (s : ℕ) (g : G) (r : Rule G) (rs Y : List (Rule G)) → ((h : G) → joined m grade s h rs ≡ join_all h Y) → cond t (joined m grade s (m.join g (value m grade r)) rs) (joined m grade s g rs) ≡ join_all g (cond t (r ∷ Y) Y)
  joined_one true s g r rs Y e = e (m.join g (value m grade r))
  joined_one false s g r rs Y e = e g

  pub joined_chosen : (s : ℕ) (rs : List (Rule G)) (g : G) → joined m grade s g rs ≡ join_all g (chosen s (keyed 1 rs))
  joined_chosen s [] g = refl
  joined_chosen s (r ∷ rs) g = joined_one (eqb r.head s) s g r rs (chosen s (keyed 1 rs)) (joined_chosen s rs)
