-- A list that is filled from its front.
use Rattle.std.proofs.Common.{◌≡◌, ℕ, ◌+◌, ◌<◌, ◌≤◌, List, [], ◌∷◌, ◌++◌, length, take, drop, set, sym, refl, ap, ◌∙◌, arith, drop-set-lt}
use borrow.Rule.Slice.PartMut.{put_mid}
use Rattle.std.proofs.lemmas.List.{take_more_set, take-append-drop, length-set, length-append, length-take, length-drop, drop-drop}
use Rattle.std.proofs.lemmas.Slice.{take-put_mid, drop-put_mid}

-- of xs, the first n places now hold `front`, and the rest is as it was
pub record Grown (was : List ℕ) (n : ℕ) (front xs : List ℕ) : Type 0 where
  pub front_is : take n xs ≡ front
  pub rest_is : drop n xs ≡ drop n was
  pub size : length xs ≡ length was

pub none : (xs : List ℕ) → Grown xs 0 [] xs
none xs = record { front_is = refl; rest_is = refl; size = refl }

drop_further : (n k : ℕ) (xs ys : List ℕ) → drop n xs ≡ drop n ys → drop (n + k) xs ≡ drop (n + k) ys
drop_further n k xs ys e = sym (drop-drop k n xs) ∙ (ap (drop k) e ∙ drop-drop k n ys)

pub byte : (was : List ℕ) (n : ℕ) (front xs : List ℕ) (b : ℕ) → n < length was → Grown was n front xs → Grown was (n + 1) (front ++ (b ∷ [])) (set xs n b)
byte was n front xs b h g =
    let z = g.size in
    record {
      front_is = take_more_set xs n b (omega arith) ∙ ap (λ l. l ++ (b ∷ [])) g.front_is;
      rest_is = drop-set-lt (n + 1) xs n b (omega arith) ∙ drop_further n 1 xs was g.rest_is;
      size = length-set xs n b ∙ z;
    }

pub part : (was : List ℕ) (n k : ℕ) (front xs ys : List ℕ) → n + k ≤ length was → length ys ≡ k → Grown was n front xs → Grown was (n + k) (front ++ ys) (put_mid n k xs ys)
part was n k front xs ys h l g =
    let z = g.size in
    record {
      front_is = take-put_mid n k xs ys (n + k) (omega arith) (omega arith) ∙ ap (λ l. l ++ ys) g.front_is;
      rest_is = drop-put_mid n k xs ys (n + k) (omega arith) (omega arith) l ∙ drop_further n k xs was g.rest_is;
      size = simp (length-append, length-take, length-drop) (omega arith);
    }

pub whole : (was : List ℕ) (n : ℕ) (front xs : List ℕ) → Grown was n front xs → xs ≡ front ++ drop n was
whole was n front xs g = sym (take-append-drop n xs) ∙ cc

-- the writes of a rule's line, one after another
pub row : (was m h w p q r s : List ℕ) (f : ℕ) → 38 ≤ length was
    → length m ≡ 5 → length h ≡ 5 → length w ≡ 5 → length p ≡ 5 → length q ≡ 5 → length r ≡ 5 → length s ≡ 5
    → set (put_mid 32 5 (put_mid 27 5 (put_mid 22 5 (put_mid 17 5 (put_mid 12 5 (set (put_mid 6 5 (put_mid 1 5 (set was 0 82) m) h) 11 f) w) p) q) r) s) 37 10
    ≡ (82 ∷ []) ++ m ++ h ++ (f ∷ []) ++ w ++ p ++ q ++ r ++ s ++ (10 ∷ []) ++ drop 38 was
row was m h w p q r s f z lm lh lw lp lq lr ls =
    let g0 = byte was 0 _ _ 82 (omega arith) (none was) in
    let g1 = part was 1 5 _ _ m (omega arith) lm g0 in
    let g2 = part was 6 5 _ _ h (omega arith) lh g1 in
    let g3 = byte was 11 _ _ f (omega arith) g2 in
    let g4 = part was 12 5 _ _ w (omega arith) lw g3 in
    let g5 = part was 17 5 _ _ p (omega arith) lp g4 in
    let g6 = part was 22 5 _ _ q (omega arith) lq g5 in
    let g7 = part was 27 5 _ _ r (omega arith) lr g6 in
    let g8 = part was 32 5 _ _ s (omega arith) ls g7 in
    whole was 38 _ _ (byte was 37 _ _ 10 (omega arith) g8)

-- the same pieces make the same line
pub pieces : (m h w p q r s m' h' w' p' q' r' s' rest : List ℕ) (f f' : ℕ) → m ≡ m' → h ≡ h' → f ≡ f' → w ≡ w' → p ≡ p' → q ≡ q' → r ≡ r' → s ≡ s'
    → (82 ∷ []) ++ m ++ h ++ (f ∷ []) ++ w ++ p ++ q ++ r ++ s ++ (10 ∷ []) ++ rest ≡ (82 ∷ []) ++ m' ++ h' ++ (f' ∷ []) ++ w' ++ p' ++ q' ++ r' ++ s' ++ (10 ∷ []) ++ rest
pieces m h w p q r s m' h' w' p' q' r' s' rest f f' em eh ef ew ep eq er es = cc
