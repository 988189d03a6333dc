use Rattle.text.proofs.FaultsWorked.{order_of_faults}
use Rattle.text.proofs.theorems.faults_come_in_order.Goals as goal

pub returns : goal.returns
returns c = order_of_faults
