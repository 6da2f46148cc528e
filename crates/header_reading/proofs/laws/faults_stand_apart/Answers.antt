use Rattle.header_reading.proofs.Apart.{faults_stand_apart}
use Rattle.header_reading.proofs.laws.faults_stand_apart.Goals as goal

pub returns : goal.returns
returns c = faults_stand_apart
