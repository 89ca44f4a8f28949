use Rattle.std.proofs.Common.{◌≡◌}
use Rattle.std.specs.Prelude.{vec_len}
use Rattle.node_sockets.proofs.stream_port.lines_of.Given as goal

-- one connection a round
abbrev pub invariant-loop-count : goal.invariant-loop-count
invariant-loop-count g l = vec_len l.lines ≡ l.count
