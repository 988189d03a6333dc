use Rattle.text.proofs.OneLoad.{one_outcome}
use Rattle.text.proofs.theorems.a_load_has_one_outcome.Goals as goal

pub returns : goal.returns
returns g c = one_outcome g.met.G.Written.codes
