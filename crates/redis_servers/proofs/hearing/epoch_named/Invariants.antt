use Rattle.std.proofs.Common.{◌≡◌, length}
use Rattle.redis_servers.specs.Hearing.{epoch_named}
use Rattle.redis_servers.proofs.hearing.epoch_named.Given as goal

-- none before those that are left has this ID
abbrev pub invariant-loop-rest : goal.invariant-loop-rest
invariant-loop-rest l = epoch_named l.name l.nodes ≡ epoch_named l.name l.rest

abbrev pub decreases-loop-rest : goal.decreases-loop-rest
decreases-loop-rest l = length l.rest
