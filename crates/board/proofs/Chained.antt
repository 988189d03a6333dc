-- What a scan over the rules gives, by the chains of a statement; and that a well_formed board's numbers are keys.
use Rattle.std.proofs.Common.{◌≡◌, ℕ, zero, suc, ◌-◌, ◌*◌, ◌/◌, ◌%◌, ◌<◌, ◌≤◌, Bool, true, false, cond, not, ◌&&◌, ◌||◌, eqb, ltb, List, [], ◌∷◌, length, get_or, replicate, sym, refl, ap, ◌∙◌, ⊎_elim, arith}
use Rattle.std.specs.List.{AllByRecursion as All}
use Rattle.std.proofs.lemmas.List.{ext_get_or, get_or-map, length-replicate, get_or-replicate}
use Rattle.std.proofs.lemmas.Bool.{both_ways, cases_eq, or_parts, or_left, or_right, ltb-false, eq-eqb, ne_eqb, cond-false}
use Rattle.scales.specs.Meaning.{Meaning}
use Rattle.model.specs.Rules.{holds, son}
use Rattle.model.specs.Formed.{malformed, malformed_place, body_above, gap}
use Rattle.model.specs.Least.{On}
use Rattle.model.specs.declared.rule.Rule.{Rule}
use Rattle.index.specs.Uses.{heads, use_by, uses, used, users, Wide}
use Rattle.index.proofs.Uses.{getD_used, users_positive, holds_users}
use Rattle.pasts.specs.Tables.{unopened, entered, told}
use Rattle.pasts.specs.declared.statement.Event.{Event}
use Rattle.pasts.specs.declared.statement.Statement.{Statement}
use Rattle.board.specs.Telling.{parents, all_told}
use Rattle.board.proofs.Told.{entered_all_told, length_all_told, parents_positive, holds_parents}

-- who is told matters, and not how often or in which order
told_same : {G : Type 0} (m : Meaning G) (e : Event) (ps qs : List ℕ) (xs : List (Statement G)) → All (λ t. 1 ≤ t) ps → All (λ t. 1 ≤ t) qs → ((r : ℕ) → 1 ≤ r → holds ps r ≡ holds qs r) → all_told m e xs ps ≡ all_told m e xs qs
told_same m e ps qs xs a b same =
    let n = length_all_told m e ps xs in
    let u = unopened m in
    ext_get_or u (all_told m e xs ps) (all_told m e xs qs) (n ∙ sym (length_all_told m e qs xs))
    (λ i h.
    let at : suc i - 1 ≡ i = omega arith in
    let on : On (length xs) (suc i) = (omega arith, omega arith) in
    ap (λ k. get_or (all_told m e xs ps) k u) (sym at)
    ∙ entered_all_told m e (suc i) ps xs a on
    ∙ ap (λ t. cond t (told e (entered m xs (suc i))) (entered m xs (suc i))) (same (suc i) (omega arith))
    ∙ sym (entered_all_told m e (suc i) qs xs b on)
    ∙ ap (λ k. get_or (all_told m e xs qs) k u) at)

-- what the chain of uses tells is what the scan tells
pub told_users : {G : Type 0} (s : ℕ) → 1 ≤ s → (m : Meaning G) (e : Event) (rs : List (Rule G)) (xs : List (Statement G)) → Wide rs → all_told m e xs (users (uses rs) s) ≡ all_told m e xs (parents rs s)
told_users s pos m e rs xs wide =
    told_same m e _ _ xs (users_positive s pos rs) (parents_positive s rs) (λ t at. holds_users s pos t at rs wide ∙ sym (holds_parents s t at rs))

above_none : (n j : ℕ) (bs : List ℕ) → body_above n bs ≡ false → get_or bs j 0 ≤ n
above_none n j [] h = omega arith
above_none n zero (b ∷ bs) h = ltb-false n b (or_parts (ltb n b) (body_above n bs) h).0
above_none n (suc j) (b ∷ bs) h = above_none n j bs (or_parts (ltb n b) (body_above n bs) h).1

module _ (n : ℕ) where
  -- z: the place is blank
  good_head : (h : ℕ) (rest z : Bool) → eqb h 0 ≡ z → (not z && (ltb n h || rest)) ≡ false → h ≤ n
  good_head h rest true e b =
      let y = ⊎_elim (λ (q : h ≡ 0). q) (λ (q : h ≡ 0 → ⊥). absurd (both_ways (eqb h 0) (ne_eqb h 0 q) e)) (cases_eq h 0) in
      omega arith
  good_head h rest false e b = ltb-false n h (or_parts (ltb n h) rest b).0

  good_son : (j h : ℕ) (bs : List ℕ) (last z : Bool) → (not z && (ltb n h || (body_above n bs || last))) ≡ false → cond z 0 (get_or bs j 0) ≤ n
  good_son j h bs last true b = omega arith
  good_son j h bs last false b = above_none n j bs (or_parts (body_above n bs) last (or_parts (ltb n h) (body_above n bs || last) b).1).0

module _ {G : Type 0} (n : ℕ) where
  place_good : (rs : List (Rule G)) (i : ℕ) (d : Rule G) → malformed n rs ≡ false → i < length rs → malformed_place n (get_or rs i d) ≡ false
  place_good [] i d b h = absurd (omega arith)
  place_good (r ∷ rs) zero d b h = (or_parts (malformed_place n r) (malformed n rs) b).0
  place_good (r ∷ rs) (suc i) d b h = place_good rs i d (or_parts (malformed_place n r) (malformed n rs) b).1 (omega arith)

  pub heads_keyed : (rs : List (Rule G)) (i : ℕ) (d : Rule G) → malformed n rs ≡ false → i < length rs → get_or (heads rs) i 0 ≤ n
  heads_keyed rs i d b h =
      let r = get_or rs i d in
      let e = get_or-map (λ x. x.head) rs i d 0 h in
      let l : r.head ≤ n = good_head n r.head (body_above n r.bodies || gap r.bodies) (eqb r.head 0) refl (place_good rs i d b h) in
      omega arith

  pub uses_keyed : (rs : List (Rule G)) (o : ℕ) (d : Rule G) → malformed n rs ≡ false → o < 4 * length rs → get_or (used (uses rs)) o 0 ≤ n
  uses_keyed rs o d b h =
      let r = get_or rs (o / 4) d in
      let e = getD_used rs o d h in
      let l : (use_by (o % 4) r).son ≤ n = good_son n (o % 4) r.head r.bodies (gap r.bodies) (eqb r.head 0) (place_good rs (o / 4) d b (omega arith)) in
      omega arith

  -- a parent has a rule, and so it is on the board
  pub parent_within : (rs : List (Rule G)) (p s : ℕ) → malformed n rs ≡ false → son rs p s ≡ true → p ≤ n
  parent_within [] p s b e = absurd (both_ways false refl e)
  parent_within (r ∷ rs) p s b e =
      let parts = or_parts (malformed_place n r) (malformed n rs) b in
      ⊎_elim
      (λ (q : r.head ≡ p). let l : r.head ≤ n = good_head n r.head (body_above n r.bodies || gap r.bodies) (eqb r.head 0) refl parts.0 in omega arith)
      (λ (q : r.head ≡ p → ⊥). parent_within rs p s parts.1 (sym (cond-false (eqb r.head p) _ _ (ne_eqb r.head p q)) ∙ e))
      (cases_eq r.head p)

-- what holds of each number in a list of positive ones
pub all_held : (Q : ℕ → Type 0) (xs : List ℕ) → All (λ t. 1 ≤ t) xs → ((p : ℕ) → 1 ≤ p → holds xs p ≡ true → Q p) → All Q xs
all_held Q [] a f = tt
all_held Q (x ∷ xs) a f =
    (f x a.0 (or_left (eqb x x) (holds xs x) (eq-eqb x x refl)), all_held Q xs a.1 (λ p pos h. f p pos (or_right (eqb x p) (holds xs p) h)))

-- the users of a statement are its parents, each on the board
pub users_on : {G : Type 0} (n s : ℕ) → 1 ≤ s → (rs : List (Rule G)) → Wide rs → malformed n rs ≡ false → All (λ p. On n p × (son rs p s ≡ true)) (users (uses rs) s)
users_on n s pos rs wide sound =
    all_held (λ p. On n p × (son rs p s ≡ true)) (users (uses rs) s) (users_positive s pos rs)
    (λ p at h. let son_is = sym (holds_users s pos p at rs wide) ∙ h in ((at, parent_within n rs p s sound son_is), son_is))

-- a table filled with one number
pub filled_length : (n a : ℕ) (xs : List ℕ) → xs ≡ replicate n a → length xs ≡ n
filled_length n a xs e = ap length e ∙ length-replicate n a

pub filled_at : (n a : ℕ) (xs : List ℕ) → xs ≡ replicate n a → (s : ℕ) → s < length xs → get_or xs s 0 ≡ a
filled_at n a xs e s h = let l = filled_length n a xs e in ap (λ x. get_or x s 0) e ∙ get_or-replicate n s a 0 (omega arith)
