use Rattle.pasts.proofs.Bounded.{finish_is_bounded}
use Rattle.pasts.proofs.theorems.a_finish_is_bounded.Goals as goal

pub returns : goal.returns
returns g c = finish_is_bounded g.met.V.Grade.Scale.laws _
