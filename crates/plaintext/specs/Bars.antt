-- Bars of twenty marks at the most. Assumes nothing.
--     filled level height     how many twentieths of the height the level reaches, and none where the height is 0
use Rattle.std.specs.Prelude.{ℕ, ◌*◌, ◌/◌}

abbrev pub filled : ℕ → ℕ → ℕ
filled level height = 20 * level / height
