use Rattle.index.proofs.Digits.{trimming_is}
use Rattle.index.proofs.theorems.trimming_takes_the_lowest.Goals as goal

pub returns : goal.returns
returns c = trimming_is
