-- What a ramp makes of readings. Assumes nothing.
--     unmeasured          what stands for a line that nobody has measured
--     reached a b r       the number that a reading r reaches between the shoulders a and b: 100 up to a; 0 beyond a and from b on; else
--                         what is left from r to b, of the span from a to b, in hundredths rounded down
--     graded a b r        the grade of a reading: lowest where nobody has measured
--     ramp t s            the degree of statement s: the grade of its reading, and beyond the table, and at 0, that of an unmeasured line
use Rattle.std.specs.Prelude.{ℕ, ◌-◌, ◌*◌, ◌/◌, cond, vec_items, ◌==◌, nat_le}
use Rattle.scales.specs.Percents.{percent, percents}
use Rattle.scales.specs.declared.percent.Percent.{Percent}
use Rattle.surveys.specs.Tables.{entry}
use Rattle.surveys.specs.declared.ramp.Ramp.{Ramp}

abbrev pub unmeasured : ℕ
unmeasured = 0

abbrev pub reached : ℕ → ℕ → ℕ → ℕ
reached a b r = cond (nat_le r a) 100 (cond (nat_le b r) 0 (100 * (b - r) / (b - a)))

abbrev pub graded : ℕ → ℕ → ℕ → Percent
graded a b r = cond (r == unmeasured) percents.lowest (percent (reached a b r))

abbrev pub ramp : Ramp → ℕ → Percent
ramp t s = graded t.near t.far (entry unmeasured (vec_items t.readings) s)
