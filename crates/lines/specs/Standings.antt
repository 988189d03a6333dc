-- How the lines of a ramp stand. Assumes nothing.
--     standing a b r      how a reading r stands between the shoulders a and b: unmeasured, at 100, at 0 or in between
--     same s t            the two standings are one
--     stands t s r        the reading r stands so on the ramp t
--     count t s           how many readings of the ramp t stand so
--     CountsAddUp         each reading stands in one way: the four counts are all readings together
use Rattle.std.specs.Prelude.{◌≡◌, ℕ, ◌+◌, Bool, true, false, cond, length, vec_items, count_by, ◌==◌}
use Rattle.scales.specs.Percents.{points}
use Rattle.surveys.specs.Ramps.{unmeasured, graded}
use Rattle.surveys.specs.declared.ramp.Ramp.{Ramp}
use Rattle.lines.specs.declared.standings.Standing.{Standing}
use Rattle.lines.specs.declared.standings.Standing.TheVariants.{Unmeasured, Full, Zero, Between}

abbrev pub standing : ℕ → ℕ → ℕ → Standing
standing a b r =
    cond (r == unmeasured) Unmeasured (cond (points (graded a b r) == 0) Zero (cond (points (graded a b r) == 100) Full Between))

abbrev pub same : Standing → Standing → Bool
same Unmeasured Unmeasured = true
same Unmeasured Full = false
same Unmeasured Zero = false
same Unmeasured Between = false
same Full Unmeasured = false
same Full Full = true
same Full Zero = false
same Full Between = false
same Zero Unmeasured = false
same Zero Full = false
same Zero Zero = true
same Zero Between = false
same Between Unmeasured = false
same Between Full = false
same Between Zero = false
same Between Between = true

abbrev pub stands : Ramp → Standing → ℕ → Bool
stands t s r = same (standing t.near t.far r) s

abbrev pub count : Ramp → Standing → ℕ
count t s = count_by (stands t s) (vec_items t.readings)

abbrev pub CountsAddUp : Type 0
CountsAddUp = (t : Ramp) → count t Unmeasured + count t Full + count t Zero + count t Between ≡ length (vec_items t.readings)
