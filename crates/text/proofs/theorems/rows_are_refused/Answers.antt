use Rattle.text.proofs.RowsRefused.{rows_are_refused}
use Rattle.text.proofs.theorems.rows_are_refused.Goals as goal

pub returns : goal.returns
returns g c = rows_are_refused g.met.G.Written.codes
