use Rattle.pasts.proofs.Ordered.{due_is_refused}
use Rattle.pasts.proofs.theorems.what_is_due_is_refused.Goals as goal

pub returns : goal.returns
returns g c = due_is_refused g.G.Scale.meaning
