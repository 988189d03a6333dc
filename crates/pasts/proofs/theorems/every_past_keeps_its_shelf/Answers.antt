use Rattle.pasts.proofs.Shelves.{keeps_its_shelf}
use Rattle.pasts.proofs.theorems.every_past_keeps_its_shelf.Goals as goal

pub returns : goal.returns
returns g c = keeps_its_shelf g.met.V.Grade.Scale.laws _
