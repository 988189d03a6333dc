use Rattle.pasts.proofs.Counted.{finish_counts}
use Rattle.pasts.proofs.theorems.a_finish_counts_its_steps.Goals as goal

pub returns : goal.returns
returns g c = finish_counts g.V.Grade.Scale.meaning _
