use Rattle.resp2_wire.proofs.Skipping.{skips_more}
use Rattle.resp2_wire.proofs.decoder.skip_empty.Goals as goal

pub loop-length-preserved : goal.loop-length-preserved
loop-length-preserved c = skips_more c.args.buffer.now.items c.loop-length.buffer.items c.advance.new.self.items c.loop-length.invariant (rw (c.advance.ensures.items, ← c.as_slice.ensures) c.in-Some.ensures.some.2)
