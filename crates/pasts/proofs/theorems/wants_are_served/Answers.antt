use Rattle.pasts.proofs.Served.{wants_are_served}
use Rattle.pasts.proofs.theorems.wants_are_served.Goals as goal

pub returns : goal.returns
returns g c = wants_are_served g.met.V.Grade.Scale.laws _
