use Rattle.index.proofs.Uses.{users_are}
use Rattle.index.proofs.theorems.users_are_parents.Goals as goal

pub returns : goal.returns
returns g c = users_are
