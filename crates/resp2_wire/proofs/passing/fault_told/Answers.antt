use Rattle.resp2_wire.proofs.Ahead.{told_behind, told_memory, told_met}
use Rattle.resp2_wire.proofs.passing.fault_told.Goals as goal

pub returns-in-Some : goal.returns-in-Some
returns-in-Some c = told_behind c.args.bytes.now c.in-Some.fault c.fault_at.result c.in-Some.is c.fault_at.ensures
