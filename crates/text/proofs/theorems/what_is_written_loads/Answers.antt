use Rattle.text.proofs.Trips.{load_after_write}
use Rattle.text.proofs.theorems.what_is_written_loads.Goals as goal

pub returns : goal.returns
returns g c = load_after_write g.met.G.Written.codes
