use Rattle.index.proofs.Digits.{putting_is}
use Rattle.index.proofs.theorems.putting_adds_one.Goals as goal

pub returns : goal.returns
returns c = putting_is
