use Rattle.plaintext.proofs.Listing.{one_by_one}
use Rattle.plaintext.proofs.theorems.lines_come_one_by_one.Goals as goal

pub returns : goal.returns
returns c = one_by_one
