use Rattle.std.proofs.Common.{◌≡◌, length}
use Rattle.plan_language.specs.LinesLeft.{read_on, fault_of}
use Rattle.plan_language.proofs.plan_lines.PlanLines.out_of_memory.Given as goal

-- the lines that were read have no fault
abbrev pub invariant-loop-fault : goal.invariant-loop-fault
invariant-loop-fault l = fault_of (read_on l.fn.self) ≡ fault_of (read_on l.self)

abbrev pub decreases-loop-fault : goal.decreases-loop-fault
decreases-loop-fault l = length l.self.lines
