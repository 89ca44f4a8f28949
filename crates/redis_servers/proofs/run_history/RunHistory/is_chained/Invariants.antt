use Rattle.std.proofs.Common.{◌≡◌, drop}
use Rattle.redis_servers.specs.RunHistories.{chained_from}
use Rattle.redis_servers.proofs.run_history.RunHistory.is_chained.Given as goal

-- no node before this one gives slots away and takes some over
abbrev pub invariant-loop-place : goal.invariant-loop-place
invariant-loop-place l = chained_from l.target 0 l.self.givers l.self.receivers
    ≡ chained_from l.target l.place (drop l.place l.self.givers) l.self.receivers
