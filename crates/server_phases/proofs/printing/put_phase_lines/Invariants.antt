use Rattle.std.proofs.Common.{length}
use Rattle.server_phases.proofs.Printed.{Printed}
use Rattle.server_phases.proofs.printing.put_phase_lines.Given as goal

-- the lines of the slots before are put
abbrev pub invariant-loop-number : goal.invariant-loop-number
invariant-loop-number g l =
    Printed g.C.KeyCounts.counts l.survey (length l.survey.rows) l.number l.fn.counts l.fn.out.items l.counts l.out.items
