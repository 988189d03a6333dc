use Rattle.pasts.proofs.Numbered.{refusals_are_rows}
use Rattle.pasts.proofs.theorems.refusals_are_rows.Goals as goal

pub returns : goal.returns
returns g c = refusals_are_rows g.V.Grade.Scale.meaning _
