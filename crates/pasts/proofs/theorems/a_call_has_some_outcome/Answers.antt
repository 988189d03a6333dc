use Rattle.pasts.proofs.Exists.{some_outcome}
use Rattle.pasts.proofs.theorems.a_call_has_some_outcome.Goals as goal

pub returns : goal.returns
returns g c = some_outcome g.met.V.Grade.Scale.laws _
