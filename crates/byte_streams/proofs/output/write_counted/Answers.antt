use Rattle.std.proofs.Common.{take-add, ◌≡◌, ◌≤◌, ◌+◌, ◌++◌, [], length, take, drop, arith, refl, ◌∙◌}
use Rattle.std.proofs.lemmas.List.{append-nil}
use Rattle.byte_streams.proofs.output.write_counted.Goals as goal

pub loop-at-init : goal.loop-at-init
loop-at-init g c = (omega arith, g.met.W.ByteOut.took_none c.args.writer.now, refl)

pub returns-in-Err-clause-wrote : goal.returns-in-Err-clause-wrote
returns-in-Err-clause-wrote g c =
    let at = c.loop-at.at in
    rw append-nil at (g.met.W.ByteOut.took_then c.args.writer.now c.loop-at.writer c.write.new.self (take at c.args.bytes.now) [] c.loop-at.invariant.1 c.in-Err.ensures.failed.1)

pub loop-at-preserved : goal.loop-at-preserved
loop-at-preserved g c =
    let at = c.loop-at.at in
    let n = c.in-Ok.count in
    let bytes = c.args.bytes.now in
    let joined : take (at + n) bytes ≡ take at bytes ++ take n (drop at bytes) = take-add at n bytes in
    let some : n ≤ length c.split_at.result.1.now = c.in-Ok.ensures.fits.1 in
    let len : length c.split_at.result.1.now + at ≡ length bytes = c.split_at.ensures.back_len in (
      omega arith,
      rw joined (g.met.W.ByteOut.took_then c.args.writer.now c.loop-at.writer c.write.new.self (take at bytes) (take n (drop at bytes)) c.loop-at.invariant.1 (rw c.split_at.ensures.back at c.in-Ok.ensures.took)),
      c.in-Ok.ensures.kept ∙ c.loop-at.invariant.2,
    )
