use Rattle.pasts.proofs.Refusing.{rows_are_refused}
use Rattle.pasts.proofs.theorems.rows_are_refused.Goals as goal

pub returns : goal.returns
returns g c = rows_are_refused g.V.Grade.Scale.meaning _
