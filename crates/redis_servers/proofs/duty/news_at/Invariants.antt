use Rattle.std.proofs.Common.{◌≡◌, ◌++◌, drop}
use Rattle.redis_servers.specs.Duties.{epochs_from}
use Rattle.redis_servers.proofs.duty.news_at.Given as goal

-- the epochs of the nodes before this one
abbrev pub invariant-loop-number : goal.invariant-loop-number
invariant-loop-number l = epochs_from l.target 0 l.history.receivers
    ≡ l.duties.items ++ epochs_from l.target l.number (drop l.number l.history.receivers)
