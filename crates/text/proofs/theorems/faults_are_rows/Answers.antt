use Rattle.text.proofs.FaultsMet.{faults_are_rows}
use Rattle.text.proofs.theorems.faults_are_rows.Goals as goal

pub returns : goal.returns
returns g c = faults_are_rows g.met.G.Written.codes
