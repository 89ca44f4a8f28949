use Rattle.std.proofs.Common.{length}
use Rattle.redis_servers.proofs.telling.+tell_each.Given as goal

abbrev pub decreases-tell_each : goal.decreases-tell_each
decreases-tell_each g l = length l.nodes.now
