use Rattle.model.proofs.Rounds.{least_is_least}
use Rattle.model.proofs.theorems.the_least_model_is_least.Goals as goal

pub returns : goal.returns
returns g c = least_is_least g.met.G.Scale.laws
