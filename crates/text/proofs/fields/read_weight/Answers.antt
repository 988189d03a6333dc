use Rattle.std.proofs.Common.{arith}
use Rattle.std.proofs.lemmas.Grind.{common_steps}
use Rattle.text.proofs.Unwritten.{unwritten}
use Rattle.text.proofs.fields.read_weight.Goals as goal

pub returns : goal.returns
returns g c =
    let u = unwritten g.met.G.Written.codes in
    grind (arith, common_steps, u)
