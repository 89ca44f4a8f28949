use Rattle.std.proofs.Common.{◌+◌, ◌≤◌, arith, drop, get_or}
use Rattle.std.proofs.lemmas.List.{drop_more}
use Rattle.plan_language.proofs.Usual.{few, more, slot_begins, slot_ends, slot_found, slot_goes_on}
use Rattle.plan_language.proofs.usual_lines.slot_of.Goals as goal

pub loop-digit-init : goal.loop-digit-init
loop-digit-init c =
    let number = c.in_ok-number in
    let first = c.in_ok-first in
    record {
      some = omega (arith, number.ensures.1);
      small = number.ensures.0;
      text =
          slot_begins c.args.digits.now first.rest.now first.first.now number.number first.ensures.cases.0
          number.ensures.0 number.ensures.1;
    }

pub overflow_mul-number : goal.overflow_mul-number
overflow_mul-number c =
    let loop = c.loop-digit in
    let short : loop.digit-index + 1 ≤ 4 = omega (arith, c.loop-digit-test.true, c.if-rest-gt4.false) in
    omega (arith, few loop.number loop.digit-index loop.invariant.small short)

pub overflow_add-number : goal.overflow_add-number
overflow_add-number c =
    let loop = c.loop-digit in
    let short : loop.digit-index + 1 ≤ 4 = omega (arith, c.loop-digit-test.true, c.if-rest-gt4.false) in
    omega (arith, few loop.number loop.digit-index loop.invariant.small short, c.in_ok-number-2.ensures.0)

pub loop-digit-preserved : goal.loop-digit-preserved
loop-digit-preserved c =
    let loop = c.loop-digit in
    let i = loop.digit-index in
    let rest = c.in_ok-first.rest.now in
    let digit = c.in_ok-number-2 in
    let short : i + 1 ≤ 4 = omega (arith, c.loop-digit-test.true, c.if-rest-gt4.false) in
    record {
      some = omega (arith, loop.invariant.some);
      small = more loop.number i digit.field-0 loop.invariant.small digit.ensures.0;
      text =
          slot_goes_on c.args.digits.now (drop i rest) (drop (i + 1) rest) loop.number digit.field-0 (get_or rest i 0)
          loop.invariant.some (few loop.number i loop.invariant.small short) digit.ensures.0 digit.ensures.1
          (drop_more rest i 0 c.loop-digit-test.true) loop.invariant.text;
    }

pub returns : goal.returns
returns c =
    let loop = c.loop-digit in
    slot_found c.new.result _ c.args.digits.now loop.number c.new.ensures
    (slot_ends c.args.digits.now c.in_ok-first.rest.now loop.number loop.digit-index loop.invariant.text
    c.loop-digit-test.false)
