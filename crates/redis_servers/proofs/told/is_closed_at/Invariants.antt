use Rattle.std.proofs.Common.{ℕ, ◌<◌}
use Rattle.redis_servers.specs.Told.{IsClosedSlot}
use Rattle.redis_servers.proofs.told.is_closed_at.Given as goal

abbrev pub invariant-loop-number : goal.invariant-loop-number
invariant-loop-number l = (s : ℕ) → s < l.number → IsClosedSlot l.survey l.owners l.node s
