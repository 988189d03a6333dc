use Rattle.index.proofs.Chains.{chains_list}
use Rattle.index.proofs.theorems.chains_list_their_places.Goals as goal

pub returns : goal.returns
returns c = chains_list
