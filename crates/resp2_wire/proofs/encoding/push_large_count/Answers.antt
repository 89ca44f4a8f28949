use Rattle.std.proofs.Common.{◌<◌, arith}
use Rattle.resp2_wire.proofs.CountLines.{count_line, most_digits, pushed}
use Rattle.resp2_wire.proofs.encoding.push_large_count.Goals as goal

pub write_digits-digits-requires : goal.write_digits-digits-requires
write_digits-digits-requires c = (omega (arith, most_digits c.args.count c.ranges.count.fits), omega arith)

pub overflow_sub-spelt : goal.overflow_sub-spelt
overflow_sub-spelt c = omega (arith, most_digits c.args.count c.ranges.count.fits, c.write_digits-digits.ensures.start)

pub overflow_sub-digits : goal.overflow_sub-digits
overflow_sub-digits c = omega (arith, most_digits c.args.count c.ranges.count.fits, c.write_digits-digits.ensures.start)

pub returns : goal.returns
returns c =
    let start = c.write_digits-digits.result in
    let some : 0 < start = omega (arith, most_digits c.args.count c.ranges.count.fits, c.write_digits-digits.ensures.start) in
    pushed c.extend_from_slice.result _ c.args.out.now.items _ _ c.extend_from_slice.ensures.items (count_line c.args.mark c.args.count start c.write_digits-digits.new.buf some c.write_digits-digits.auto.buf c.write_digits-digits.ensures.start c.write_digits-digits.ensures.written)
