use Rattle.pasts.proofs.Served.{same_rules_agree}
use Rattle.pasts.proofs.theorems.same_rules_agree.Goals as goal

pub returns : goal.returns
returns g c = same_rules_agree g.met.V.Grade.Scale.laws _
