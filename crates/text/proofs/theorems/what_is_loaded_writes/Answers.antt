use Rattle.text.proofs.Trips.{write_after_load}
use Rattle.text.proofs.theorems.what_is_loaded_writes.Goals as goal

pub returns : goal.returns
returns g c = write_after_load g.met.G.Written.codes g.met.G.Scale.laws
