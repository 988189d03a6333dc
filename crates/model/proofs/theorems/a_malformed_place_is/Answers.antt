use Rattle.model.proofs.Pinned.{malformed_is}
use Rattle.model.proofs.theorems.a_malformed_place_is.Goals as goal

pub returns : goal.returns
returns g c = malformed_is
