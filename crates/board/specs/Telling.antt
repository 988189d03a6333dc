-- Which statements are told of an event, in the order of the rules. Assumes nothing.
--     there p b                   the body b is there and passes the test p
--     sons rules s                every body of the rules with head s
--     parents rules s             the head of every rule that has s among its bodies
--     all_told m e xs ts          the statements xs, once those with the numbers ts have answered the event e
use Rattle.std.specs.Prelude.{ℕ, ◌-◌, Bool, cond, not, ◌&&◌, List, [], ◌∷◌, ◌++◌, ◌==◌, slice_set}
use Rattle.scales.specs.Meaning.{Meaning}
use Rattle.model.specs.Rules.{present, holds}
use Rattle.model.specs.declared.rule.Rule.{Rule}
use Rattle.pasts.specs.Tables.{entered, told}
use Rattle.pasts.specs.declared.statement.Event.{Event}
use Rattle.pasts.specs.declared.statement.Statement.{Statement}

abbrev pub there : (ℕ → Bool) → ℕ → Bool
there p b = not (b == 0) && p b

module _ {G : Type 0} where
  abbrev pub sons : List (Rule G) → ℕ → List ℕ
  sons [] s = []
  sons (r ∷ rs) s = cond (r.head == s) (present r.bodies ++ sons rs s) (sons rs s)

  abbrev pub parents : List (Rule G) → ℕ → List ℕ
  parents [] s = []
  parents (r ∷ rs) s = cond (not (r.head == 0) && holds (present r.bodies) s) (r.head ∷ parents rs s) (parents rs s)

module _ {G : Type 0} (m : Meaning G) where
  abbrev pub all_told : Event → List (Statement G) → List ℕ → List (Statement G)
  all_told e xs [] = xs
  all_told e xs (t ∷ ts) = all_told e (slice_set xs (t - 1) (told e (entered m xs t))) ts
