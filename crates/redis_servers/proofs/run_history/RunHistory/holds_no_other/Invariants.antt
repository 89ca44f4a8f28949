use Rattle.std.proofs.Common.{◌≡◌, ℕ, ◌<◌, ◌&&◌, ◌==◌, not, false}
use Rattle.redis_servers.specs.RunHistories.{holds}
use Rattle.redis_servers.proofs.run_history.RunHistory.holds_no_other.Given as goal

abbrev pub invariant-loop-number : goal.invariant-loop-number
invariant-loop-number l = (s : ℕ) → s < l.number → (not (s == l.slot) && holds l.self l.survey l.node s) ≡ false
