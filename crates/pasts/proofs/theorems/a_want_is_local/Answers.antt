use Rattle.pasts.proofs.Local.{want_is_local}
use Rattle.pasts.proofs.theorems.a_want_is_local.Goals as goal

pub returns : goal.returns
returns g c = want_is_local g.V.Grade.Scale.meaning _
