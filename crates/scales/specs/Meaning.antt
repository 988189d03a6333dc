-- What a scale of grades means. Assumes nothing.
--     Meaning G           a scale whose grades are held by values of G
--       stands            the value that a held value's grade is known by: values that stand alike hold one grade
--       below             the test whether the first grade is at or below the second
--       lowest, highest   the two ends
--       join, meet        the least grade at or above two, and the greatest at or below two
--       blend             how a rule's weight and the grade of a body go together
--       level, height     how far up a grade is, and how far up one can be
--     Under m a b         a is at or below b
--     Same m a b          a and b hold one grade
--     above m a b         the test whether a is strictly above b
use Rattle.std.specs.Prelude.{◌≡◌, ℕ, Bool, true, not, ◌&&◌}

pub record Meaning (G : Type 0) : Type 0 where
  pub stands : G → G
  pub below : G → G → Bool
  pub lowest : G
  pub highest : G
  pub join : G → G → G
  pub meet : G → G → G
  pub blend : G → G → G
  pub level : G → ℕ
  pub height : ℕ

module _ {G : Type 0} (m : Meaning G) where
  abbrev pub Under : G → G → Type 0
  Under a b = m.below a b ≡ true

  abbrev pub Same : G → G → Type 0
  Same a b = m.stands a ≡ m.stands b

  abbrev pub above : G → G → Bool
  above a b = m.below b a && not (m.below a b)
