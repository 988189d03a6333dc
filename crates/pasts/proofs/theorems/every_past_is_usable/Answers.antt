use Rattle.pasts.proofs.Usables.{stays_usable}
use Rattle.pasts.proofs.theorems.every_past_is_usable.Goals as goal

pub returns : goal.returns
returns g c = stays_usable g.met.V.Grade.Scale.laws _
