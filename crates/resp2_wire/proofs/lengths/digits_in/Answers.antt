use Rattle.std.proofs.Common.{arith}
use Rattle.resp2_wire.proofs.CountLines.{most_digits}
use Rattle.resp2_wire.proofs.Measured.{eight_digits_more}
use Rattle.resp2_wire.proofs.lengths.digits_in.Goals as goal

pub overflow_add-digits : goal.overflow_add-digits
overflow_add-digits c = omega (arith, c.loop-rest.invariant, most_digits c.args.number (omega (arith, c.ranges.number.fits)))

pub loop-rest-preserved : goal.loop-rest-preserved
loop-rest-preserved c = omega (arith, c.loop-rest.invariant, eight_digits_more c.loop-rest.rest c.loop-rest-test.true (omega (arith, c.loop-rest.auto.rest-fits)))

pub overflow_add-result : goal.overflow_add-result
overflow_add-result c = omega (arith, c.loop-rest.invariant, c.few_digits_in.ensures, most_digits c.args.number (omega (arith, c.ranges.number.fits)))

pub returns-clause-limit : goal.returns-clause-limit
returns-clause-limit c = omega (arith, c.loop-rest.invariant, c.few_digits_in.ensures, most_digits c.args.number (omega (arith, c.ranges.number.fits)))
