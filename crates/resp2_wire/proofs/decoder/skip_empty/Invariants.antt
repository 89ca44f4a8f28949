use Rattle.std.proofs.Common.{length}
use Rattle.resp2_wire.specs.Stream.{Skips}
use Rattle.resp2_wire.proofs.decoder.skip_empty.Given as goal

abbrev pub invariant-loop-length : goal.invariant-loop-length
invariant-loop-length l = Skips l.initial.buffer.items l.buffer.items

abbrev pub decreases-loop-length : goal.decreases-loop-length
decreases-loop-length l = length l.buffer.items
