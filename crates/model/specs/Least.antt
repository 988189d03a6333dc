-- The least model of a board's rules over a survey's degrees. Assumes nothing.
--     On n s                              s is the number of one of a board's n statements, or of one of n places
--     worth m degree rules grade s        the worth of s: the join of its degree and of what the rules say of it under the grades
--     Model m degree rules n grade        every worth is at or below its statement's grade
--     LeastModel m degree rules n least   least is a model, and at or below every other
--     rounds m degree rules k             worths repeated k times, from all lowest
--     least m degree rules n              so many rounds that nothing rises any more
use Rattle.std.specs.Prelude.{ℕ, zero, suc, ◌*◌, ◌≤◌, List}
use Rattle.scales.specs.Meaning.{Meaning, Under}
use Rattle.model.specs.Rules.{joined}
use Rattle.model.specs.declared.rule.Rule.{Rule}

abbrev pub On : ℕ → ℕ → Type 0
On n s = (1 ≤ s) × (s ≤ n)

module _ {G : Type 0} (m : Meaning G) (degree : ℕ → G) (rules : List (Rule G)) where
  abbrev pub worth : (ℕ → G) → ℕ → G
  worth grade s = joined m grade s (degree s) rules

  abbrev pub Model : ℕ → (ℕ → G) → Type 0
  Model n grade = (s : ℕ) → On n s → Under m (worth grade s) (grade s)

  pub record LeastModel (n : ℕ) (least : ℕ → G) : Type 0 where
    pub model : Model n least
    pub under : (grade : ℕ → G) → Model n grade → (s : ℕ) → On n s → Under m (least s) (grade s)

  abbrev pub rounds : ℕ → ℕ → G
  rounds zero s = m.lowest
  rounds (suc k) s = worth (rounds k) s

  unfoldable pub least : ℕ → ℕ → G
  least n s = rounds (n * m.height) s
