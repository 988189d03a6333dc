-- What a table of grades says of each statement. Assumes nothing.
--     entry none xs s     entry s of the table xs, counted from 1; at 0 and beyond the table, none
--     listed low t s      the degree of statement s in the table t: lowest where there is no entry
use Rattle.std.specs.Prelude.{ℕ, ◌-◌, cond, List, vec_items, ◌==◌, slice_index_or}
use Rattle.surveys.specs.declared.listed.Listed.{Listed}

module _ {X : Type 0} where
  abbrev pub entry : X → List X → ℕ → X
  entry none xs s = cond (s == 0) none (slice_index_or xs (s - 1) none)

  abbrev pub listed : X → Listed X → ℕ → X
  listed low t s = entry low (vec_items t.grades) s
