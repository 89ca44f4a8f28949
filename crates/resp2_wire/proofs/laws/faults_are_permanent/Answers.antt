use Rattle.resp2_wire.proofs.Streams.{faults_are_permanent}
use Rattle.resp2_wire.proofs.laws.faults_are_permanent.Goals as goal

pub returns : goal.returns
returns c = faults_are_permanent
