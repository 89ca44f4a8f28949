use Rattle.std.proofs.Common.{◌≡◌, ℕ, ◌<◌, false}
use Rattle.redis_servers.specs.RunHistories.{had_at}
use Rattle.redis_servers.proofs.run_history.had_slots.Given as goal

abbrev pub invariant-loop-number : goal.invariant-loop-number
invariant-loop-number l = (s : ℕ) → s < l.number → had_at l.survey l.node s ≡ false
