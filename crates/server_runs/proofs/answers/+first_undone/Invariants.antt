use Rattle.std.proofs.Common.{length}
use Rattle.server_runs.proofs.answers.+first_undone.Given as goal

abbrev pub decreases-first_undone : goal.decreases-first_undone
decreases-first_undone l = length l.answers.now
