use Rattle.pasts.proofs.Local.{wakes}
use Rattle.pasts.proofs.theorems.calls_wake.Goals as goal

pub returns : goal.returns
returns g c = wakes g.V.Grade.Scale.meaning _
