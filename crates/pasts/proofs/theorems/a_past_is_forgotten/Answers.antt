use Rattle.pasts.proofs.Served.{past_is_forgotten}
use Rattle.pasts.proofs.theorems.a_past_is_forgotten.Goals as goal

pub returns : goal.returns
returns g c = past_is_forgotten g.met.V.Grade.Scale.laws _
