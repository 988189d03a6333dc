use Rattle.model.proofs.Pinned.{son_is}
use Rattle.model.proofs.theorems.a_son_is.Goals as goal

pub returns : goal.returns
returns g c = son_is
