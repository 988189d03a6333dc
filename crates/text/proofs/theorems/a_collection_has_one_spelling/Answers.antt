use Rattle.text.proofs.Trips.{one_spelling}
use Rattle.text.proofs.theorems.a_collection_has_one_spelling.Goals as goal

pub returns : goal.returns
returns g c = one_spelling g.met.G.Written.codes
