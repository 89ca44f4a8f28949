use Rattle.std.proofs.Common.{ℕ, ◌<◌}
use Rattle.redis_servers.specs.Told.{SameAt}
use Rattle.redis_servers.proofs.told.tell_same.Given as goal

abbrev pub invariant-loop-number : goal.invariant-loop-number
invariant-loop-number l = (n : ℕ) → n < l.number → SameAt l.survey l.other n
