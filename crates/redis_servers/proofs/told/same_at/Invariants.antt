use Rattle.std.proofs.Common.{ℕ, ◌<◌}
use Rattle.redis_servers.specs.Told.{SameSlot}
use Rattle.redis_servers.proofs.told.same_at.Given as goal

abbrev pub invariant-loop-number : goal.invariant-loop-number
invariant-loop-number l = (s : ℕ) → s < l.number → SameSlot l.survey l.other l.node s
