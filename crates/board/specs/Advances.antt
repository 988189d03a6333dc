-- What taking one statement leaves of all. Assumes nothing.
--     Picks m xs o                    o is the active statement with the lowest number, or none where none is active
--     risen m degree rules xs s       the worth of s is strictly above its grade
--     raised m degree rules xs s      the statement s once it was taken, with its worth if it rose
--     opened m degree rules xs s      the statements once s was taken and its sons were opened
--     advanced m degree rules xs s    those, once the parents of s were told if it rose
use Rattle.std.specs.Prelude.{◌≡◌, ℕ, ◌-◌, Bool, false, cond, List, Some, None, Option, slice_set}
use Rattle.scales.specs.Meaning.{Meaning, above}
use Rattle.model.specs.Least.{worth}
use Rattle.model.specs.declared.rule.Rule.{Rule}
use Rattle.pasts.specs.Marks.{answered}
use Rattle.pasts.specs.Tables.{entered, grades, some_active}
use Rattle.pasts.specs.Calls.{Next}
use Rattle.pasts.specs.declared.statement.Event.TheVariants.{Opened, SonRose, Taken}
use Rattle.pasts.specs.declared.statement.Statement.{Statement}
use Rattle.board.specs.Telling.{sons, parents, all_told}

module _ {G : Type 0} (m : Meaning G) where
  abbrev pub Picks : List (Statement G) → Option ℕ → Type 0
  Picks xs None = some_active xs ≡ false
  Picks xs (Some s) = Next m xs s

module _ {G : Type 0} (m : Meaning G) (degree : ℕ → G) (rules : List (Rule G)) where
  abbrev pub risen : List (Statement G) → ℕ → Bool
  risen xs s = above m (worth m degree rules (grades m xs) s) (grades m xs s)

  abbrev pub raised : List (Statement G) → ℕ → Statement G
  raised xs s = record { grade = cond (risen xs s) (worth m degree rules (grades m xs) s) (grades m xs s); mark = answered (entered m xs s).mark Taken }

  abbrev pub opened : List (Statement G) → ℕ → List (Statement G)
  opened xs s = all_told m Opened (slice_set xs (s - 1) (raised xs s)) (sons rules s)

  abbrev pub advanced : List (Statement G) → ℕ → List (Statement G)
  advanced xs s = cond (risen xs s) (all_told m SonRose (opened xs s) (parents rules s)) (opened xs s)
