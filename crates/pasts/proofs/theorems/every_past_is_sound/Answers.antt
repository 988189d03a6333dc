use Rattle.pasts.proofs.Sounds.{stays_sound}
use Rattle.pasts.proofs.theorems.every_past_is_sound.Goals as goal

pub returns : goal.returns
returns g c = stays_sound g.met.V.Grade.Scale.laws _
