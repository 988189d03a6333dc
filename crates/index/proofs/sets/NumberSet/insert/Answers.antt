use Rattle.std.proofs.Common.{◌/◌, ◌<◌, length, arith}
use Rattle.index.proofs.Digits.{putting_is}
use Rattle.index.proofs.sets.NumberSet.insert.Goals as goal

pub returns-clause-has : goal.returns-clause-has
returns-clause-has c h =
    let ws = c.self.inside.words in
    let there : c.args.i / 64 < length ws = omega (arith, c.self.told) in
    rw c.insert.ensures (putting_is.put ws c.args.i there)
