use Rattle.text.proofs.Trips.{has_a_past}
use Rattle.text.proofs.theorems.a_loaded_board_has_a_past.Goals as goal

pub returns : goal.returns
returns g c = has_a_past g.met.G.Written.codes g.met.G.Scale.laws
