use Rattle.std.proofs.Common.{◌≡◌, ◌+◌, length, decimal}
use Rattle.resp2_wire.proofs.lengths.digits_in.Given as goal

abbrev pub invariant-loop-rest : goal.invariant-loop-rest
invariant-loop-rest l = l.digits + length (decimal l.rest) ≡ length (decimal l.number)

abbrev pub decreases-loop-rest : goal.decreases-loop-rest
decreases-loop-rest l = l.rest
