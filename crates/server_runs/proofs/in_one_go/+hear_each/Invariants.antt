use Rattle.std.proofs.Common.{length}
use Rattle.server_runs.proofs.in_one_go.+hear_each.Given as goal

abbrev pub decreases-hear_each : goal.decreases-hear_each
decreases-hear_each g l = length l.answers.now
