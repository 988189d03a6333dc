use Rattle.text.proofs.FirstFaults.{faults_are_first}
use Rattle.text.proofs.theorems.faults_are_first.Goals as goal

pub returns : goal.returns
returns g c = faults_are_first g.met.G.Written.codes
