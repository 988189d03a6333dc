use Rattle.pasts.proofs.Fits.{finish_fits}
use Rattle.pasts.proofs.theorems.a_finish_fits.Goals as goal

pub returns : goal.returns
returns g c = finish_fits g.met.V.Grade.Scale.laws _
