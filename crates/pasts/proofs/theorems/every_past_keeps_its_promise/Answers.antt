use Rattle.pasts.proofs.Kept.{keeps_its_promise}
use Rattle.pasts.proofs.theorems.every_past_keeps_its_promise.Goals as goal

pub returns : goal.returns
returns g c = keeps_its_promise g.met.V.Grade.Scale.laws _
