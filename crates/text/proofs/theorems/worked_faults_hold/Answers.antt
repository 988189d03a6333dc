use Rattle.text.proofs.FaultsWorked.{worked_faults}
use Rattle.text.proofs.theorems.worked_faults_hold.Goals as goal

pub returns : goal.returns
returns c = worked_faults
