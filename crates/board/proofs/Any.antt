-- Whether one of a list passes a test, against a recursion that says so.
use Rattle.std.proofs.Common.{◌≡◌, ℕ, Bool, true, false, cond, not, ◌&&◌, ◌||◌, eqb, List, [], ◌∷◌, sym, refl, ap, ◌∙◌}
use Rattle.std.specs.List.{list_any}
use Rattle.model.specs.Rules.{present, holds}
use Rattle.board.specs.Flags.{flagged, some_flagged}
use Rattle.board.specs.Telling.{there}

-- a recursion that asks each element in turn
pub any_is : {X : Type 0} (p : X → Bool) (F : List X → Bool) → F [] ≡ false → ((x : X) (xs : List X) → F (x ∷ xs) ≡ (p x || F xs)) → (xs : List X) → list_any p xs ≡ F xs
any_is p F none more [] = sym none
any_is p F none more (x ∷ xs) = ap (λ b. p x || b) (any_is p F none more xs) ∙ sym (more x xs)

present_one : (F : List ℕ → Bool) (p : ℕ → Bool) → ((b : ℕ) (bs : List ℕ) → F (b ∷ bs) ≡ (p b || F bs)) → (b : ℕ) (z : Bool) (bs : List ℕ) → F (cond z bs (b ∷ bs)) ≡ ((not z && p b) || F bs)
present_one F p more b true bs = refl
present_one F p more b false bs = more b bs

pub any_holds : (s : ℕ) (bs : List ℕ) → list_any (there (λ b. eqb b s)) bs ≡ holds (present bs) s
any_holds s bs = any_is (there (λ b. eqb b s)) (λ l. holds (present l) s) refl (λ b l. present_one (λ k. holds k s) (λ x. eqb x s) (λ _ _. refl) b (eqb b 0) (present l)) bs

pub any_touches : (fl : List Bool) (bs : List ℕ) → list_any (there (flagged fl)) bs ≡ some_flagged fl (present bs)
any_touches fl bs = any_is (there (flagged fl)) (λ l. some_flagged fl (present l)) refl (λ b l. present_one (some_flagged fl) (flagged fl) (λ _ _. refl) b (eqb b 0) (present l)) bs
