-- One turn of a loop over a rule's bodies or over rules: what a recursion has before it, and after it.
use Rattle.std.proofs.Common.{◌≡◌, ℕ, ◌+◌, ◌-◌, ◌<◌, ◌≤◌, Bool, true, false, cond, not, ◌&&◌, eqb, List, [], ◌∷◌, ◌++◌, length, get_or, drop, set, sym, refl, ap, ◌∙◌}
use Rattle.std.proofs.lemmas.List.{drop_more, drop_all}
use Rattle.std.proofs.lemmas.Bool.{eq-eqb, ne_eqb, cond-true, cond-false}
use Rattle.scales.specs.Meaning.{Meaning}
use Rattle.model.specs.Rules.{present, holds, joined, value}
use Rattle.model.specs.declared.rule.Rule.{Rule}
use Rattle.pasts.specs.Tables.{entered, told}
use Rattle.pasts.specs.declared.statement.Event.{Event}
use Rattle.pasts.specs.declared.statement.Statement.{Statement}
use Rattle.board.specs.Telling.{all_told, sons, parents}

module _ {X : Type 0} (xs : List X) (i : ℕ) where
  pub turn : (x d : X) → i < length xs → x ≡ get_or xs i d → drop i xs ≡ x ∷ drop (i + 1) xs
  turn x d h read = drop_more xs i d h ∙ ap (λ y. y ∷ drop (i + 1) xs) (sym read)

  -- a recursion that goes one way or another by a test of the element
  module _ {Y : Type 0} (F : List X → Y) (x : X) (test : Bool) (taken left : Y) (at : F (x ∷ drop (i + 1) xs) ≡ cond test taken left) where
    pub turn_taken : i < length xs → x ≡ get_or xs i x → test ≡ true → F (drop i xs) ≡ taken
    turn_taken h read e = ap F (turn x x h read) ∙ at ∙ cond-true test taken left e

    pub turn_left : i < length xs → x ≡ get_or xs i x → test ≡ false → F (drop i xs) ≡ left
    turn_left h read e = ap F (turn x x h read) ∙ at ∙ cond-false test taken left e

module _ (bs : List ℕ) (i : ℕ) (h : i < length bs) where
  pub present_skip : get_or bs i 0 ≡ 0 → present (drop i bs) ≡ present (drop (i + 1) bs)
  present_skip e =
      ap present (drop_more bs i 0 h) ∙ cond-true (eqb (get_or bs i 0) 0) (present (drop (i + 1) bs)) (get_or bs i 0 ∷ present (drop (i + 1) bs)) (eq-eqb (get_or bs i 0) 0 e)

  pub present_more : (get_or bs i 0 ≡ 0 → ⊥) → present (drop i bs) ≡ get_or bs i 0 ∷ present (drop (i + 1) bs)
  present_more n =
      ap present (drop_more bs i 0 h) ∙ cond-false (eqb (get_or bs i 0) 0) (present (drop (i + 1) bs)) (get_or bs i 0 ∷ present (drop (i + 1) bs)) (ne_eqb (get_or bs i 0) 0 n)

pub none_left : {X Y : Type 0} (F : List X → Y) (xs : List X) (i : ℕ) → length xs ≤ i → F (drop i xs) ≡ F []
none_left F xs i h = ap F (drop_all i xs h)

module _ {G : Type 0} (rs : List (Rule G)) (i : ℕ) (r : Rule G) (h : i < length rs) (read : r ≡ get_or rs i r) (s : ℕ) where
  module _ (m : Meaning G) (grade : ℕ → G) (g : G) where
    pub joined_more : r.head ≡ s → joined m grade s g (drop i rs) ≡ joined m grade s (m.join g (value m grade r)) (drop (i + 1) rs)
    joined_more e = turn_taken rs i (joined m grade s g) r (eqb r.head s) _ _ refl h read (eq-eqb r.head s e)

  pub sons_skip : (r.head ≡ s → ⊥) → sons (drop i rs) s ≡ sons (drop (i + 1) rs) s
  sons_skip n = turn_left rs i (λ l. sons l s) r (eqb r.head s) _ _ refl h read (ne_eqb r.head s n)

  pub sons_more : r.head ≡ s → sons (drop i rs) s ≡ present r.bodies ++ sons (drop (i + 1) rs) s
  sons_more e = turn_taken rs i (λ l. sons l s) r (eqb r.head s) _ _ refl h read (eq-eqb r.head s e)

  pub parents_skip : (not (eqb r.head 0) && holds (present r.bodies) s) ≡ false → parents (drop i rs) s ≡ parents (drop (i + 1) rs) s
  parents_skip n = turn_left rs i (λ l. parents l s) r (not (eqb r.head 0) && holds (present r.bodies) s) _ _ refl h read n

  pub parents_more : (not (eqb r.head 0) && holds (present r.bodies) s) ≡ true → parents (drop i rs) s ≡ r.head ∷ parents (drop (i + 1) rs) s
  parents_more e = turn_taken rs i (λ l. parents l s) r (not (eqb r.head 0) && holds (present r.bodies) s) _ _ refl h read e

module _ {G : Type 0} (m : Meaning G) (e : Event) where
  pub all_told_append : (ps qs : List ℕ) (xs : List (Statement G)) → all_told m e xs (ps ++ qs) ≡ all_told m e (all_told m e xs ps) qs
  all_told_append [] qs xs = refl
  all_told_append (p ∷ ps) qs xs = all_told_append ps qs (set xs (p - 1) (told e (entered m xs p)))
