-- What a rule put into the table changes of worths, sons and well-formedness.
use Rattle.std.proofs.Common.{◌≡◌, ℕ, zero, suc, false, cond, ◌||◌, eqb, List, [], ◌∷◌, get_or, set, sym, refl, ap, ◌∙◌, ap₂}
use Rattle.std.proofs.lemmas.Bool.{or_parts, or_from, cond-false}
use Rattle.scales.specs.Meaning.{Meaning, Under}
use Rattle.scales.specs.Laws.{Laws}
use Rattle.model.specs.Rules.{present, holds, son, value, joined}
use Rattle.model.specs.Formed.{malformed_place, malformed}
use Rattle.model.specs.declared.rule.Rule.{Rule}
use Rattle.model.proofs.Cases.{at_test}
use Rattle.model.proofs.Monotone.{same, joined_rises}

module _ {G : Type 0} where
  pub put_formed : (n : ℕ) (rules : List (Rule G)) (j : ℕ) (r : Rule G) → malformed n rules ≡ false → malformed_place n r ≡ false → malformed n (set rules j r) ≡ false
  put_formed n [] j r ok good = refl
  put_formed n (y ∷ ys) zero r ok good = or_from _ _ good (or_parts (malformed_place n y) (malformed n ys) ok).1
  put_formed n (y ∷ ys) (suc j) r ok good =
      let parts = or_parts (malformed_place n y) (malformed n ys) ok in
      or_from _ _ parts.0 (put_formed n ys j r parts.1 good)

  -- neither the rule that was there nor the one that comes has the head s
  pub put_son : (s x : ℕ) (rules : List (Rule G)) (j : ℕ) (r d : Rule G) → eqb (get_or rules j d).head s ≡ false → eqb r.head s ≡ false → son (set rules j r) s x ≡ son rules s x
  put_son s x [] j r d old new = refl
  put_son s x (y ∷ ys) zero r d old new = cond-false (eqb r.head s) _ _ new ∙ sym (cond-false (eqb y.head s) _ _ old)
  put_son s x (y ∷ ys) (suc j) r d old new = ap (λ z. cond (eqb y.head s) (holds (present y.bodies) x || z) z) (put_son s x ys j r d old new)

  module _ (m : Meaning G) (g : ℕ → G) where
    pub put_joined : (s : ℕ) (rules : List (Rule G)) (j : ℕ) (r d : Rule G) (x : G) → eqb (get_or rules j d).head s ≡ false → eqb r.head s ≡ false → joined m g s x (set rules j r) ≡ joined m g s x rules
    put_joined s [] j r d x old new = refl
    put_joined s (y ∷ ys) zero r d x old new = cond-false (eqb r.head s) _ _ new ∙ sym (cond-false (eqb y.head s) _ _ old)
    put_joined s (y ∷ ys) (suc j) r d x old new = ap₂ (cond (eqb y.head s)) (put_joined s ys j r d (m.join x (value m g y)) old new) (put_joined s ys j r d x old new)

  module _ {m : Meaning G} (laws : Laws m) (g : ℕ → G) where
    -- a rule put where none with the head s was adds to the join
    pub put_adds : (s : ℕ) (rules : List (Rule G)) (j : ℕ) (r d : Rule G) (x : G) → eqb (get_or rules j d).head s ≡ false → Under m (joined m g s x rules) (joined m g s x (set rules j r))
    put_adds s [] j r d x old = same laws x
    put_adds s (y ∷ ys) zero r d x old =
        rw old (at_test (eqb r.head s) (λ c. Under m (joined m g s x ys) (cond c (joined m g s (m.join x (value m g r)) ys) (joined m g s x ys))) (λ e. joined_rises laws g g s x _ ys (laws.join_left _ _) (λ t q. same laws _)) (λ e. same laws _))
    put_adds s (y ∷ ys) (suc j) r d x old =
        at_test (eqb y.head s) (λ c. Under m (cond c (joined m g s (m.join x (value m g y)) ys) (joined m g s x ys)) (cond c (joined m g s (m.join x (value m g y)) (set ys j r)) (joined m g s x (set ys j r)))) (λ e. put_adds s ys j r d (m.join x (value m g y)) old) (λ e. put_adds s ys j r d x old)
