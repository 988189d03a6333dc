-- What two surveys of one scale say together. Assumes nothing.
--     joined m f g s      the join of the degrees that f and g give statement s
use Rattle.std.specs.Prelude.{ℕ}
use Rattle.scales.specs.Meaning.{Meaning}

abbrev pub joined : {G : Type 0} → Meaning G → (ℕ → G) → (ℕ → G) → ℕ → G
joined m f g s = m.join (f s) (g s)
