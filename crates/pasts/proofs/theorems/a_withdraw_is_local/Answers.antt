use Rattle.pasts.proofs.Local.{withdraw_is_local}
use Rattle.pasts.proofs.theorems.a_withdraw_is_local.Goals as goal

pub returns : goal.returns
returns g c = withdraw_is_local g.V.Grade.Scale.meaning _
