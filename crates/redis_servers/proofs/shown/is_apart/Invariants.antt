use Rattle.std.proofs.Common.{◌≡◌, ℕ, ◌<◌, false}
use Rattle.redis_servers.specs.Looking.{clash}
use Rattle.redis_servers.proofs.shown.is_apart.Given as goal

abbrev pub invariant-loop-number : goal.invariant-loop-number
invariant-loop-number l =
    (z : ℕ) → z < l.number → clash l.book l.target l.history.receivers l.nodes l.node z ≡ false
