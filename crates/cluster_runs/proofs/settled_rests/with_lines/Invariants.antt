use Rattle.std.proofs.Common.{length}
use Rattle.cluster_runs.proofs.settled_rests.with_lines.Given as goal

abbrev pub decreases-loop-line : goal.decreases-loop-line
decreases-loop-line g l = length l.lines
