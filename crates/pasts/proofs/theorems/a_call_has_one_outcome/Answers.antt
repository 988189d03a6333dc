use Rattle.pasts.proofs.Once.{one_outcome}
use Rattle.pasts.proofs.theorems.a_call_has_one_outcome.Goals as goal

pub returns : goal.returns
returns g c = one_outcome g.V.Grade.Scale.meaning _
