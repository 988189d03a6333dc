use Rattle.pasts.proofs.Clearing.{clear_row}
use Rattle.pasts.proofs.theorems.a_clear_has_one_row.Goals as goal

pub returns : goal.returns
returns g c = clear_row g.G.Scale.meaning
