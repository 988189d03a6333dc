-- How a statement's mark answers an event. Assumes nothing.
--     answered x e                the mark x after the event e
--     Taken                       the event that a step evaluates the statement: then the step takes it
--     active x                    the statement is active: open, and to be taken
--     open_mark x                 the statement is open: it was wanted, or is a son of one that was taken; it is active, or else quiet
--     Quiet                       it was taken, and nothing is to be done for it before a son rises
--     Unopened                    nobody asked for the statement
--     Resting rules n marks s     s is open and leads to no active statement
use Rattle.std.specs.Prelude.{◌≡◌, ℕ, Bool, true, false, List}
use Rattle.model.specs.Rules.{Leads}
use Rattle.model.specs.Least.{On}
use Rattle.model.specs.declared.rule.Rule.{Rule}
use Rattle.pasts.specs.declared.statement.Mark.{Mark}
use Rattle.pasts.specs.declared.statement.Mark.TheVariants.{Unopened, Quiet, Active}
use Rattle.pasts.specs.declared.statement.Event.{Event}
use Rattle.pasts.specs.declared.statement.Event.TheVariants.{Wanted, Opened, SonRose, Taken}

abbrev pub answered : Mark → Event → Mark
answered Unopened Wanted = Active
answered Unopened Opened = Active
answered Unopened SonRose = Unopened
answered Unopened Taken = Unopened
answered Quiet Wanted = Quiet
answered Quiet Opened = Quiet
answered Quiet SonRose = Active
answered Quiet Taken = Quiet
answered Active Wanted = Active
answered Active Opened = Active
answered Active SonRose = Active
answered Active Taken = Quiet

abbrev pub active : Mark → Bool
active Unopened = false
active Quiet = false
active Active = true

abbrev pub open_mark : Mark → Bool
open_mark Unopened = false
open_mark Quiet = true
open_mark Active = true

pub record Resting {G : Type 0} (rules : List (Rule G)) (n : ℕ) (marks : ℕ → Mark) (s : ℕ) : Type 0 where
  pub is_open : open_mark (marks s) ≡ true
  pub far : (a : ℕ) → On n a → active (marks a) ≡ true → Leads rules s a → ⊥
