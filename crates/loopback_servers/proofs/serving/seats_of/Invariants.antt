use Rattle.std.proofs.Common.{◌≡◌}
use Rattle.std.specs.Prelude.{vec_len}
use Rattle.loopback_servers.proofs.serving.seats_of.Given as goal

-- one seat a round
abbrev pub invariant-loop-count : goal.invariant-loop-count
invariant-loop-count g l = vec_len l.seats ≡ l.count
