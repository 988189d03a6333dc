use Rattle.pasts.proofs.Usables.{read_is_settled}
use Rattle.pasts.proofs.theorems.a_read_is_settled.Goals as goal

pub returns : goal.returns
returns g c = read_is_settled g.met.V.Grade.Scale.laws _
