-- Lines that are written one after another, each at the front of what is left.
use Rattle.std.proofs.Common.{◌≡◌, ℕ, ◌+◌, ◌-◌, ◌≤◌, List, [], ◌++◌, length, take, drop, ap, ◌∙◌, arith}
use borrow.Rule.Slice.PartMut.{put_mid}
use Rattle.std.proofs.lemmas.List.{take_at, drop_at, drop-drop, drop_all, take_rest, append-nil, append_assoc, length-append, length-drop}

-- a line of n bytes at the front of `&mut xs[at..]`
pub pour : (was xs done ys bytes : List ℕ) (at n : ℕ) → length xs ≡ length was → at ≤ length was → xs ≡ done ++ drop at was
    → ys ≡ bytes ++ drop n (take (length xs - at) (drop at xs))
    → put_mid at (length xs - at) xs ys ≡ (done ++ bytes) ++ drop (at + n) was
pour was xs done ys bytes at n same h e ey =
    let ld : length done ≡ at = omega (arith, simp (length-append, length-drop) at (ap length e)) in
    let t : take at xs ≡ done = ap (take at) e ∙ take_at done (drop at was) at ld in
    let d : drop at xs ≡ drop at was = ap (drop at) e ∙ drop_at done (drop at was) at ld in
    let y : ys ≡ bytes ++ drop (at + n) was = ey ∙ ap (λ l. bytes ++ l) (ap (drop n) (take_rest xs at ∙ d) ∙ drop-drop n at was) in
    let z : drop (length xs - at) (drop at xs) ≡ [] = drop_all (length xs - at) (drop at xs) (simp length-drop (omega arith)) in
    let a = append_assoc done bytes (drop (at + n) was) in
    let b = append-nil ys in
    cc
