-- What the words of a survey mean. Assumes nothing.
--     Measured r         somebody has measured the reading r
--     EntryIs X          which entry of a table is a statement's: where s - 1 entries come before it, it is entry s
--     ListedIs X         which degree a table of grades gives each statement
--     RampIs             what a ramp gives each reading and each statement, and that it never rises
--     JoinedIs m         the degree of two surveys together is the least grade that both of theirs are at or below
use Rattle.std.specs.Prelude.{◌≡◌, ℕ, ◌+◌, ◌-◌, ◌*◌, ◌<◌, ◌≤◌, List, ◌∷◌, ◌++◌, length, vec_items}
use Rattle.scales.specs.Meaning.{Meaning, Under}
use Rattle.scales.specs.Percents.{points, percent, percents}
use Rattle.surveys.specs.Tables.{entry, listed}
use Rattle.surveys.specs.Ramps.{unmeasured, graded, ramp}
use Rattle.surveys.specs.Joins.{joined}
use Rattle.surveys.specs.declared.listed.Listed.{Listed}
use Rattle.surveys.specs.declared.ramp.Ramp.{Ramp}

abbrev pub Measured : ℕ → Type 0
Measured r = r ≡ unmeasured → ⊥

pub record EntryIs (X : Type 0) : Type 0 where
  pub there : (none x : X) (before after : List X) → entry none (before ++ x ∷ after) (length before + 1) ≡ x
  pub at_0 : (none : X) (xs : List X) → entry none xs 0 ≡ none
  pub beyond : (none : X) (xs : List X) (s : ℕ) → length xs < s → entry none xs s ≡ none

pub record ListedIs (X : Type 0) : Type 0 where
  pub there : (low x : X) (t : Listed X) (before after : List X) → vec_items t.grades ≡ before ++ x ∷ after → listed low t (length before + 1) ≡ x
  pub at_0 : (low : X) (t : Listed X) → listed low t 0 ≡ low
  pub beyond : (low : X) (t : Listed X) (s : ℕ) → length (vec_items t.grades) < s → listed low t s ≡ low

pub record RampIs : Type 0 where
  pub near : (a b r : ℕ) → Measured r → r ≤ a → graded a b r ≡ percent 100
  pub far : (a b r : ℕ) → Measured r → a < r → b ≤ r → graded a b r ≡ percent 0
  -- in between the grade is the greatest number of hundredths of the span from a to b that is left from r to b
  pub between : (a b r : ℕ) → Measured r → a < r → r < b → (points (graded a b r) * (b - a) ≤ 100 * (b - r)) × (100 * (b - r) < (points (graded a b r) + 1) * (b - a))
  -- a longer reading has no higher grade
  pub falls : (a b r s : ℕ) → Measured r → r ≤ s → Under percents (graded a b s) (graded a b r)
  pub unmeasured_line : (a b : ℕ) → graded a b unmeasured ≡ percents.lowest
  pub there : (t : Ramp) (r : ℕ) (before after : List ℕ) → vec_items t.readings ≡ before ++ r ∷ after → ramp t (length before + 1) ≡ graded t.near t.far r
  pub no_statement : (t : Ramp) → ramp t 0 ≡ percents.lowest
  pub beyond : (t : Ramp) (s : ℕ) → length (vec_items t.readings) < s → ramp t s ≡ percents.lowest

abbrev pub JoinedIs : {G : Type 0} → Meaning G → Type 0
JoinedIs {G} m =
    (f g : ℕ → G) (s : ℕ) → Under m (f s) (joined m f g s) × Under m (g s) (joined m f g s) × ((b : G) → Under m (f s) b → Under m (g s) b → Under m (joined m f g s) b)
