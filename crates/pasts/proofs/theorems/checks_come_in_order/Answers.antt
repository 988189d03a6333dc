use Rattle.pasts.proofs.Numbered.{order_of_checks}
use Rattle.pasts.proofs.theorems.checks_come_in_order.Goals as goal

pub returns : goal.returns
returns g c = order_of_checks g.G.Scale.meaning
