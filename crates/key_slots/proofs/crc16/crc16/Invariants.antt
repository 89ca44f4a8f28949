use Rattle.std.proofs.Common.{drop, length}
use Rattle.key_slots.proofs.Slicing.{IsDividedUpTo}
use Rattle.key_slots.proofs.crc16.crc16.Given as goal

abbrev pub decreases-loop-left : goal.decreases-loop-left
decreases-loop-left l = length l.left

abbrev pub invariant-loop-left : goal.invariant-loop-left
invariant-loop-left l = IsDividedUpTo l.fn.bytes l.left l.crc

abbrev pub invariant-loop-byte : goal.invariant-loop-byte
invariant-loop-byte l = IsDividedUpTo l.fn.bytes (drop l.byte-index l.byte-items) l.crc
