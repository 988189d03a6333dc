-- The grades of a rule's bodies, taken together as they come from an iterator, and as the model says it.
use Rattle.std.proofs.Common.{◌≡◌, ℕ, zero, suc, ◌<◌, ◌≤◌, Bool, true, false, cond, not, eqb, List, [], ◌∷◌, length, get_or, map, arith, Some, None, Option, sym, refl, ap, subst, ◌∙◌}
use Rattle.std.specs.List.{fold, filter, All as Each, FoldsTo}
use Rattle.std.specs.Option.{MatchOption}
use Rattle.std.specs.Iterator.{Drains, FoldTurn, ReducesItems, FoldsItems}
use Rattle.std.proofs.lemmas.Iterator.{YieldsList, items_from_drains}
use Rattle.std.proofs.lemmas.List.{map-id}
use Rattle.std.proofs.lemmas.List.Elements.{All-get_or, filter_passes}
use denote.Param.Members.{Mut, Called}
use Rattle.scales.specs.Meaning.{Meaning}
use Rattle.model.specs.Rules.{present, folds, by_form}
use Rattle.model.specs.declared.rule.Form.{Form}
use Rattle.model.specs.declared.rule.Form.TheVariants.{All, Any, Chain}
use Rattle.board.specs.Values.{together, weighed}

pub present_filter : (bs : List ℕ) → filter (λ b. not (eqb b 0)) bs ≡ present bs
present_filter [] = refl
present_filter (b ∷ bs) =
    elim (eqb b 0) as (λ (z : Bool). cond (not z) (b ∷ filter (λ x. not (eqb x 0)) bs) (filter (λ x. not (eqb x 0)) bs) ≡ cond z (present bs) (b ∷ present bs)) [
      | true ↦ present_filter bs
      | false ↦ ap (λ l. b ∷ l) (present_filter bs)
    ]

there_one : (b : ℕ) → not (eqb b 0) ≡ true → 1 ≤ b
there_one zero e = absurd (cc)
there_one (suc b) e = omega arith

-- a body that is there is not 0
pub present_there : (bs : List ℕ) (x k : ℕ) → k < length (present bs) → x ≡ get_or (present bs) k x → 1 ≤ x
present_there bs x k l r =
    let P : ℕ → Type 0 = λ b. not (eqb b 0) ≡ true in
    there_one x (subst P (sym r) (All-get_or P (present bs) k x l (subst (Each P) (present_filter bs) (filter_passes (λ b. not (eqb b 0)) bs))))

module _ {G : Type 0} (grade : ℕ → G) where
  pub folds_map : (op : G → G → G) (g : G) (bs : List ℕ) → fold op g (map grade bs) ≡ folds grade op g bs
  folds_map op g [] = refl
  folds_map op g (b ∷ bs) = folds_map op (op g (grade b)) bs

  pub weighed_map : (m : Meaning G) (f : Form) (w : G) (bs : List ℕ) → weighed m f w (map grade bs) ≡ by_form m grade f w bs
  weighed_map m All w [] = refl
  weighed_map m Any w [] = refl
  weighed_map m Chain w [] = refl
  weighed_map m All w (b ∷ bs) = ap (m.blend w) (folds_map m.meet (grade b) bs)
  weighed_map m Any w (b ∷ bs) = ap (m.blend w) (folds_map m.join (grade b) bs)
  weighed_map m Chain w (b ∷ bs) = folds_map m.blend w (b ∷ bs)

-- turns of an operation that leave the callee alone
module _ {G F : Type 0} (g : Mut F (G × (G × Unit {0})) G) (op : G → G → G) (f : F) (acts : (a x b : G) (q : F) → Called g f (a, (x, tt)) b q → (q ≡ f) × (b ≡ op a x)) where
  pub turns_fold : (xs : List G) (p q : F × G) → p.0 ≡ f → FoldsTo {P = F × G} (FoldTurn g) p xs q → q.1 ≡ fold op p.1 xs
  turns_fold [] p q a c = ap (λ w. w.1) (sym c)
  turns_fold (x ∷ xs) p q a c =
      let k = acts p.1 x c.0.1 c.0.0 (subst (λ w. Called g w (p.1, (x, tt)) c.0.1 c.0.0) a c.1) in turns_fold xs c.0 q k.0 c.2 ∙ ap (λ b. fold op b xs) k.1

  module _ {S : Type 0} (steps : S → Option G → S → Type 0) (s : S) (m : Meaning G) (form : Form) (w y : G) where
    pub reduced_by : weighed m form ≡ together m op → (r : Option G) → ReducesItems steps g s f r → MatchOption r (y ≡ w) (λ x. y ≡ m.blend w x) → (gs : List G) × Drains steps s gs × (y ≡ weighed m form w gs)
    reduced_by by None ran e = ([], ran, e ∙ sym (ap (λ h. h w []) by))
    reduced_by by (Some x) ran e =
        (ran.0 ∷ ran.1, ran.3, e ∙ ap (m.blend w) (turns_fold ran.1 (f, ran.0) (ran.2, x) refl ran.4) ∙ sym (ap (λ h. h w (ran.0 ∷ ran.1)) by))

    pub folded_by : weighed m form ≡ fold op → FoldsItems steps g s f w y → (gs : List G) × Drains steps s gs × (y ≡ weighed m form w gs)
    folded_by by ran = (ran.0, ran.2, turns_fold ran.0 (f, w) (ran.1, y) refl ran.3 ∙ sym (ap (λ h. h w ran.0) by))

module _ {G S : Type 0} {steps : S → Option G → S → Type 0} (s : S) where
  pub drained_weighed : (m : Meaning G) (grade : ℕ → G) (f : Form) (w y : G) (bs : List ℕ) → (gs : List G) × Drains steps s gs × (y ≡ weighed m f w gs) → YieldsList steps (λ x. x) s (map grade bs) → y ≡ by_form m grade f w bs
  drained_weighed m grade f w y bs d e =
      d.2 ∙ ap (weighed m f w) (sym (map-id d.0) ∙ items_from_drains d.0 (d.1.1.0, d.1.1.1, λ _. (d.1.0, d.1.1.2)) e) ∙ weighed_map grade m f w bs
