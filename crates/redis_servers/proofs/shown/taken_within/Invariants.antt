use Rattle.std.proofs.Common.{◌≡◌, ◌-◌, suc}
use Rattle.redis_servers.specs.Looking.{taken_within}
use Rattle.redis_servers.proofs.shown.taken_within.Given as goal

-- none before this slot was taken over
abbrev pub invariant-loop-number : goal.invariant-loop-number
invariant-loop-number l = taken_within l.history l.survey l.node l.initial.number (suc l.last - l.initial.number)
    ≡ taken_within l.history l.survey l.node l.number (suc l.last - l.number)

abbrev pub decreases-loop-number : goal.decreases-loop-number
decreases-loop-number l = suc l.last - l.number
