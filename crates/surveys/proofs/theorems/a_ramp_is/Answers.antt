use Rattle.surveys.proofs.Falling.{ramp_is}
use Rattle.surveys.proofs.theorems.a_ramp_is.Goals as goal

pub returns : goal.returns
returns c = ramp_is
