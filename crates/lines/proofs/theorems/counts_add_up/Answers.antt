use Rattle.lines.proofs.Counting.{add_up}
use Rattle.lines.proofs.theorems.counts_add_up.Goals as goal

pub returns : goal.returns
returns c = add_up
