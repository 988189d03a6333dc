use Rattle.pasts.proofs.Clearing.{clear_has_one_outcome}
use Rattle.pasts.proofs.theorems.a_clear_has_one_outcome.Goals as goal

pub returns : goal.returns
returns g c = clear_has_one_outcome g.G.Scale.meaning
