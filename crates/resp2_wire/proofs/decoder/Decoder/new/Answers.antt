use Rattle.std.proofs.Common.{refl}
use Rattle.resp2_wire.proofs.Skipping.{nothing_read, nothing_first}
use Rattle.resp2_wire.proofs.decoder.Decoder.new.Goals as goal

pub invariant_of-result : goal.invariant_of-result
invariant_of-result c = rw c.new.ensures.items (nothing_read _ _ refl refl (rw c.new-2.ensures.items refl) nothing_first)
