use Rattle.std.proofs.Common.{◌≡◌, ◌≤◌, ◌-◌, length, take}
use Rattle.byte_streams.proofs.output.write_counted.Given as goal

abbrev pub invariant-loop-at : goal.invariant-loop-at
invariant-loop-at g l =
    (l.at ≤ length l.bytes) × (g.W.ByteOut.took l.initial.writer (take l.at l.bytes) l.writer)
    × (g.W.ByteOut.failures l.writer ≡ g.W.ByteOut.failures l.initial.writer)

abbrev pub decreases-loop-at : goal.decreases-loop-at
decreases-loop-at g l = length l.bytes - l.at
