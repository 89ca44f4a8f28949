use Rattle.std.proofs.Common.{length}
use Rattle.server_phases.proofs.Successive.{Gathered}
use Rattle.server_phases.proofs.stranded.put_stranded_lines.Given as goal

-- the lines of the slots before are put
abbrev pub invariant-loop-number : goal.invariant-loop-number
invariant-loop-number g l =
    Gathered g.C.KeyCounts.counts l.survey (length l.survey.rows) l.number l.fn.counts l.fn.out.items l.counts l.out.items
