-- The users of a statement: found by the chain of its uses, and the same as its parents.
use Rattle.std.proofs.Common.{◌≡◌, ℕ, zero, suc, ◌+◌, ◌*◌, ◌/◌, ◌%◌, ◌<◌, ◌≤◌, Bool, true, false, cond, not, ◌&&◌, ◌||◌, eqb, List, [], ◌∷◌, length, get_or, drop, sym, refl, ap, ◌∙◌, ⊎_elim, arith}
use Rattle.std.specs.List.{AllByRecursion as All}
use Rattle.std.proofs.lemmas.List.{length-map, get_or-map, drop_more, drop_all}
use Rattle.std.proofs.lemmas.Bool.{eq-eqb, ne_eqb, eqb-true, or_from, or_left, or_right, cond-true, cond-false, cases_eq}
use Rattle.model.specs.Rules.{present, holds, son}
use Rattle.model.specs.declared.rule.Rule.{Rule}
use Rattle.index.specs.Chains.{place}
use Rattle.index.specs.Uses.{Use, users, used, use_by, uses, Wide, UsersAre}
use Rattle.index.proofs.Chains.{at_place}

module _ (s : ℕ) (us : List Use) (i : ℕ) where
  pub users_place : users (drop i us) s ≡ users (drop (place (used us) s i) us) s
  users_place = at_place (λ u. u.son) s (λ l. users l s) (λ u us n. cond-false (eqb u.son s) _ _ (ne_eqb u.son s n)) us i

  pub users_more : (u : Use) → i < length us → get_or us i u ≡ u → u.son ≡ s → users (drop i us) s ≡ u.head ∷ users (drop (i + 1) us) s
  users_more u h read e =
      ap (λ l. users l s) (drop_more us i u h ∙ ap (λ x. x ∷ drop (i + 1) us) read) ∙ cond-true (eqb u.son s) _ _ (eq-eqb u.son s e)

  pub users_done : length us ≤ i → users (drop i us) s ≡ []
  users_done h = ap (λ l. users l s) (drop_all i us h)

module _ {G : Type 0} where
  pub length_uses : (rs : List (Rule G)) → length (uses rs) ≡ 4 * length rs
  length_uses [] = refl
  length_uses (r ∷ rs) = let n = length_uses rs in omega arith

  use_at : (rs : List (Rule G)) (q j : ℕ) (d : Rule G) (e : Use) → q < length rs → j < 4 → get_or (uses rs) (q * 4 + j) e ≡ use_by j (get_or rs q d)
  use_at [] q j d e h l = absurd (omega arith)
  use_at (r ∷ rs) zero zero d e h l = refl
  use_at (r ∷ rs) zero (suc zero) d e h l = refl
  use_at (r ∷ rs) zero (suc (suc zero)) d e h l = refl
  use_at (r ∷ rs) zero (suc (suc (suc zero))) d e h l = refl
  use_at (r ∷ rs) zero (suc (suc (suc (suc j)))) d e h l = absurd (omega arith)
  use_at (r ∷ rs) (suc q) j d e h l =
      let n : suc q * 4 + j ≡ suc (suc (suc (suc (q * 4 + j)))) = omega arith in
      ap (λ o. get_or (uses (r ∷ rs)) o e) n ∙ use_at rs q j d e (omega arith) l

  pub getD_uses : (rs : List (Rule G)) (o : ℕ) (d : Rule G) (e : Use) → o < 4 * length rs → get_or (uses rs) o e ≡ use_by (o % 4) (get_or rs (o / 4) d)
  getD_uses rs o d e h =
      let n : o ≡ o / 4 * 4 + o % 4 = omega arith in
      ap (λ x. get_or (uses rs) x e) n ∙ use_at rs (o / 4) (o % 4) d e (omega arith) (omega arith)

  pub length_used : (rs : List (Rule G)) → length (used (uses rs)) ≡ 4 * length rs
  length_used rs = length-map (uses rs) (λ u. u.son) ∙ length_uses rs

  pub getD_used : (rs : List (Rule G)) (o : ℕ) (d : Rule G) → o < 4 * length rs → get_or (used (uses rs)) o 0 ≡ (use_by (o % 4) (get_or rs (o / 4) d)).son
  getD_used rs o d h =
      let u = use_by (o % 4) (get_or rs (o / 4) d) in
      get_or-map (λ x. x.son) (uses rs) o u 0 (omega (arith, length_uses rs)) ∙ ap (λ x. x.son) (getD_uses rs o d u h)

  -- a use of a statement is no blank place's
  pub use_named : (j s : ℕ) (r : Rule G) → 1 ≤ s → (use_by j r).son ≡ s → 1 ≤ r.head
  use_named j s r pos e =
      ⊎_elim
      (λ (z : r.head ≡ 0). let y = cond-true (eqb r.head 0) 0 (get_or r.bodies j 0) (eq-eqb r.head 0 z) in omega arith)
      (λ (n : r.head ≡ 0 → ⊥). omega arith)
      (cases_eq r.head 0)

-- a use of s makes its head a user of s
later_user : (b : Bool) (h t : ℕ) (X : List ℕ) → holds X t ≡ true → holds (cond b (h ∷ X) X) t ≡ true
later_user true h t X e = or_right (eqb h t) (holds X t) e
later_user false h t X e = e

user_holds : (s k : ℕ) (us : List Use) (d : Use) → k < length us → (get_or us k d).son ≡ s → holds (users us s) (get_or us k d).head ≡ true
user_holds s k [] d h e = absurd (omega arith)
user_holds s zero (u ∷ us) d h e =
    ap (λ l. holds l u.head) (cond-true (eqb u.son s) _ _ (eq-eqb u.son s e)) ∙ or_left (eqb u.head u.head) (holds (users us s) u.head) (eq-eqb u.head u.head refl)
user_holds s (suc k) (u ∷ us) d h e = later_user (eqb u.son s) u.head (get_or us k d).head (users us s) (user_holds s k us d (omega arith) e)

present_one : (b s : ℕ) (bs : List ℕ) (t : Bool) → 1 ≤ s → eqb b 0 ≡ t → holds (present bs) s ≡ holds bs s → holds (cond t (present bs) (b ∷ present bs)) s ≡ (eqb b s || holds bs s)
present_one b s bs true pos q e =
    let z : b ≡ 0 = eqb-true b 0 q in
    let f : eqb b s ≡ false = ne_eqb b s (λ y. omega arith) in
    e ∙ ap (λ t. t || holds bs s) (sym f)
present_one b s bs false pos q e = ap (λ t. eqb b s || t) e

holds_present : (s : ℕ) → 1 ≤ s → (bs : List ℕ) → holds (present bs) s ≡ holds bs s
holds_present s pos [] = refl
holds_present s pos (b ∷ bs) = present_one b s bs (eqb b 0) pos refl (holds_present s pos bs)

-- t: the place is blank
same_test : (t : Bool) (s : ℕ) (bs : List ℕ) → 1 ≤ s → length bs ≡ 4 → (eqb (cond t 0 (get_or bs 0 0)) s || (eqb (cond t 0 (get_or bs 1 0)) s || (eqb (cond t 0 (get_or bs 2 0)) s || (eqb (cond t 0 (get_or bs 3 0)) s || false)))) ≡ (not t && holds (present bs) s)
same_test true s bs pos n =
    let z : eqb 0 s ≡ false = ne_eqb 0 s (λ y. omega arith) in
    or_from (eqb 0 s) _ z (or_from (eqb 0 s) _ z (or_from (eqb 0 s) _ z (or_from (eqb 0 s) _ z refl)))
same_test false s [] pos n = absurd (omega arith)
same_test false s (a ∷ []) pos n = absurd (omega arith)
same_test false s (a ∷ b ∷ []) pos n = absurd (omega arith)
same_test false s (a ∷ b ∷ c ∷ []) pos n = absurd (omega arith)
same_test false s (a ∷ b ∷ c ∷ d ∷ []) pos n = sym (holds_present s pos (a ∷ b ∷ c ∷ d ∷ []))
same_test false s (a ∷ b ∷ c ∷ d ∷ e ∷ bs) pos n = absurd (omega arith)

-- one use more: b, it is a use of the statement; u, its head is the one looked for; d, one of the uses after it in the rule is such a use
one_more : (b u d c : Bool) (h t : ℕ) (X : List ℕ) → eqb h t ≡ u → holds X t ≡ cond u (d || c) c → holds (cond b (h ∷ X) X) t ≡ cond u ((b || d) || c) c
one_more true true d c h t X e q = ap (λ v. v || holds X t) e
one_more true false d c h t X e q = ap (λ v. v || holds X t) e ∙ q
one_more false u d c h t X e q = q

no_more : (u c : Bool) → c ≡ cond u (false || c) c
no_more true c = refl
no_more false c = refl

-- z: the place is blank, which it is not where its head is a statement
named_rule : (u z v c : Bool) (h t : ℕ) → 1 ≤ t → eqb h t ≡ u → eqb h 0 ≡ z → cond u ((not z && v) || c) c ≡ cond u (v || c) c
named_rule true true v c h t pos e q =
    let x : h ≡ t = eqb-true h t e in
    let y : h ≡ 0 = eqb-true h 0 q in
    absurd (omega arith)
named_rule true false v c h t pos e q = refl
named_rule false z v c h t pos e q = refl

positive_more : (t : Bool) (h : ℕ) (X : List ℕ) → (t ≡ true → 1 ≤ h) → All (λ t. 1 ≤ t) X → All (λ t. 1 ≤ t) (cond t (h ∷ X) X)
positive_more true h X f a = (f refl, a)
positive_more false h X f a = a

module _ {G : Type 0} (s : ℕ) (pos : 1 ≤ s) where
  named : (j : ℕ) (r : Rule G) → eqb (use_by j r).son s ≡ true → 1 ≤ r.head
  named j r e = use_named j s r pos (eqb-true (use_by j r).son s e)

  pub users_positive : (rs : List (Rule G)) → All (λ t. 1 ≤ t) (users (uses rs) s)
  users_positive [] = tt
  users_positive (r ∷ rs) =
      positive_more (eqb (use_by 0 r).son s) r.head _ (named 0 r)
      (positive_more (eqb (use_by 1 r).son s) r.head _ (named 1 r)
      (positive_more (eqb (use_by 2 r).son s) r.head _ (named 2 r)
      (positive_more (eqb (use_by 3 r).son s) r.head _ (named 3 r) (users_positive rs))))

  pub holds_users : (t : ℕ) → 1 ≤ t → (rs : List (Rule G)) → Wide rs → holds (users (uses rs) s) t ≡ son rs t s
  holds_users t at [] wide = refl
  holds_users t at (r ∷ rs) wide =
      let u = eqb r.head t in
      let c = son rs t s in
      let b = λ (j : ℕ). eqb (use_by j r).son s in
      let e = holds_users t at rs (λ k h d. wide (suc k) (omega arith) d) in
      one_more (b 0) u (b 1 || (b 2 || (b 3 || false))) c r.head t _ refl
      (one_more (b 1) u (b 2 || (b 3 || false)) c r.head t _ refl
      (one_more (b 2) u (b 3 || false) c r.head t _ refl
      (one_more (b 3) u false c r.head t (users (uses rs) s) refl (e ∙ no_more u c))))
      ∙ ap (λ v. cond u (v || c) c) (same_test (eqb r.head 0) s r.bodies pos (wide 0 (omega arith) r))
      ∙ named_rule u (eqb r.head 0) (holds (present r.bodies) s) c r.head t at refl refl

-- the head of a use of s has s for a son
pub use_parent : {G : Type 0} (s : ℕ) → 1 ≤ s → (rs : List (Rule G)) (o : ℕ) (d : Rule G) → Wide rs → o < 4 * length rs → get_or (used (uses rs)) o 0 ≡ s → (1 ≤ (get_or rs (o / 4) d).head) × (son rs (get_or rs (o / 4) d).head s ≡ true)
use_parent s pos rs o d wide h e =
    let r = get_or rs (o / 4) d in
    let u = use_by (o % 4) r in
    let its : u.son ≡ s = sym (getD_used rs o d h) ∙ e in
    let at = use_named (o % 4) s r pos its in
    let read = getD_uses rs o d u h in
    (at, sym (holds_users s pos r.head at rs wide) ∙ ap (λ x. holds (users (uses rs) s) x.head) (sym read) ∙ user_holds s o (uses rs) u (omega (arith, length_uses rs)) (ap (λ x. x.son) read ∙ its))

pub users_are : {G : Type 0} → UsersAre G
users_are rules s t wide pos at = holds_users s pos t at rules wide
