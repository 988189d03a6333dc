use Rattle.pasts.proofs.Ordered.{refusals_are_due}
use Rattle.pasts.proofs.theorems.refusals_are_due.Goals as goal

pub returns : goal.returns
returns g c = refusals_are_due g.V.Grade.Scale.meaning _
