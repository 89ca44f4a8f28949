use Rattle.std.proofs.Common.{◌≡◌, drop}
use Rattle.redis_servers.specs.RunHistories.{first_marked}
use Rattle.redis_servers.proofs.run_history.marked_at.Given as goal

-- no node before this one has a mark
abbrev pub invariant-loop-number : goal.invariant-loop-number
invariant-loop-number l =
    first_marked l.slot 0 l.survey.rows ≡ first_marked l.slot l.number (drop l.number l.survey.rows)
