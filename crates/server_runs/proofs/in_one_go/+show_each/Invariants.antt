use Rattle.std.proofs.Common.{length}
use Rattle.server_runs.proofs.in_one_go.+show_each.Given as goal

abbrev pub decreases-show_each : goal.decreases-show_each
decreases-show_each g l = length l.nodes.now
