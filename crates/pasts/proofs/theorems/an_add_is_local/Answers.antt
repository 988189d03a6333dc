use Rattle.pasts.proofs.Local.{add_is_local}
use Rattle.pasts.proofs.theorems.an_add_is_local.Goals as goal

pub returns : goal.returns
returns g c = add_is_local g.V.Grade.Scale.meaning _
