use Rattle.std.proofs.Common.{◌<◌, length, arith}
use Rattle.std.proofs.lemmas.Result.{err_from_is_err_and}
use Rattle.resp2_wire.specs.Replies.{line_at}
use Rattle.resp2_wire.proofs.TextLines.{line_goes_on, line_long, line_lf, line_short, line_ends, line_breaks}
use Rattle.resp2_wire.proofs.decoding.line_at.Goals as goal

pub returns-in_err-rest-clause-read : goal.returns-in_err-rest-clause-read
returns-in_err-rest-clause-read c =
    let p = err_from_is_err_and c.from_residual.result c.from_residual.ensures.1 in
    let at = rw c.split_at-then-bytes-i-eq13.ensures.back at c.in_err-rest.ensures in
    let len : c.loop-i.i < length c.args.bytes.now = omega arith in
    rw (p.1, p.2) (line_breaks c.args.bytes.now 1024 c.loop-i.i (line_at 1024 c.args.bytes.now) c.loop-i.invariant.1 _ len c.if-bytes-i-eq13.true at)

pub returns-then-bytes-i-eq13-clause-read : goal.returns-then-bytes-i-eq13-clause-read
returns-then-bytes-i-eq13-clause-read c =
    let at = rw c.split_at-then-bytes-i-eq13.ensures.back at c.in_ok-rest.ensures in
    let len : c.loop-i.i < length c.args.bytes.now = omega arith in
    rw c.split_at.ensures.front (line_ends c.args.bytes.now 1024 c.loop-i.i (line_at 1024 c.args.bytes.now) c.loop-i.invariant.1 _ len c.if-bytes-i-eq13.true at)

pub returns-then-bytes-i-eq10-clause-read : goal.returns-then-bytes-i-eq10-clause-read
returns-then-bytes-i-eq10-clause-read c = let len : c.loop-i.i < length c.args.bytes.now = omega arith in line_lf c.args.bytes.now 1024 c.loop-i.i (line_at 1024 c.args.bytes.now) c.loop-i.invariant.1 len c.if-bytes-i-eq10.true

pub returns-then-i-eq-MAX_LINE_BYTES-clause-read : goal.returns-then-i-eq-MAX_LINE_BYTES-clause-read
returns-then-i-eq-MAX_LINE_BYTES-clause-read c = let len : c.loop-i.i < length c.args.bytes.now = omega arith in line_long c.args.bytes.now 1024 c.loop-i.i (line_at 1024 c.args.bytes.now) c.loop-i.invariant.1 (omega arith) len c.if-bytes-i-eq13.false c.if-bytes-i-eq10.false

pub loop-i-preserved : goal.loop-i-preserved
loop-i-preserved c = let len : c.loop-i.i < length c.args.bytes.now = omega arith in (omega arith, line_goes_on c.args.bytes.now 1024 c.loop-i.i (line_at 1024 c.args.bytes.now) c.loop-i.invariant.1 (omega arith) len c.if-bytes-i-eq13.false c.if-bytes-i-eq10.false)

pub returns-clause-read : goal.returns-clause-read
returns-clause-read c = line_short c.args.bytes.now 1024 c.loop-i.i (line_at 1024 c.args.bytes.now) c.loop-i.invariant.1 (omega arith)
