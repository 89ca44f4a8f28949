use Rattle.std.proofs.Common.{◌+◌, ◌^◌, ◌≤◌, arith}
use Rattle.std.proofs.Math.Nat.{pow-le-pow_right}
use Rattle.byte_texts.proofs.decimals.few_digits_from.Goals as goal

-- src/decimals.rt:43:18
pub overflow_mul-number : goal.overflow_mul-number
overflow_mul-number c =
    let within : c.loop-digit.digit-index + 1 ≤ 18 = omega (arith, c.loop-digit-test.true, c.requires.short) in
    let bound : 10 ^ (c.loop-digit.digit-index + 1) ≤ 10 ^ 18 = pow-le-pow_right (omega arith) within in
    omega (arith, c.loop-digit.invariant.0, bound)

-- src/decimals.rt:43:18
pub overflow_add-number : goal.overflow_add-number
overflow_add-number c =
    let within : c.loop-digit.digit-index + 1 ≤ 18 = omega (arith, c.loop-digit-test.true, c.requires.short) in
    let bound : 10 ^ (c.loop-digit.digit-index + 1) ≤ 10 ^ 18 = pow-le-pow_right (omega arith) within in
    omega (arith, c.loop-digit.invariant.0, bound, c.from.ensures)
