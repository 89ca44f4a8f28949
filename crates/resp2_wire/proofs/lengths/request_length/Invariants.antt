use Rattle.std.proofs.Common.{◌≡◌, length, take}
use Rattle.resp2_wire.specs.Held.{held}
use Rattle.resp2_wire.proofs.Measured.{so_far}
use Rattle.resp2_wire.proofs.lengths.request_length.Given as goal

abbrev pub invariant-loop-word : goal.invariant-loop-word
invariant-loop-word l = l.total ≡ held (so_far (length l.words) (take l.word-index l.words))
