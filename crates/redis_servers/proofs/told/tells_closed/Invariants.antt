use Rattle.std.proofs.Common.{ℕ, ◌<◌}
use Rattle.redis_servers.specs.Told.{IsClosedAt}
use Rattle.redis_servers.proofs.told.tells_closed.Given as goal

abbrev pub invariant-loop-number : goal.invariant-loop-number
invariant-loop-number l = (n : ℕ) → n < l.number → IsClosedAt l.survey l.owners n
