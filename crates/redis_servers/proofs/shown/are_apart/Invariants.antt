use Rattle.std.proofs.Common.{ℕ, ◌<◌}
use Rattle.redis_servers.specs.Looking.{IsApart}
use Rattle.redis_servers.proofs.shown.are_apart.Given as goal

abbrev pub invariant-loop-number : goal.invariant-loop-number
invariant-loop-number l = (y : ℕ) → y < l.number → IsApart l.book l.target l.history.receivers l.nodes y
