use Rattle.std.proofs.Common.{◌≡◌, ◌-◌, ◌+◌, ◌*◌, suc, refl, arith, rules, ◌∙◌}
use Rattle.resp2_wire.proofs.ShortHeaders.{first_digit, next_digit, line_end, last_line_end, few_digits, more_digits}
use Rattle.resp2_wire.proofs.reading.short_header_at.Goals as goal

pub loop-init : goal.loop-init
loop-init c = record {
  small = c.in_ok-number.ensures.1;
  goes_on = λ f. rw c.in_ok-number.ensures.2 (first_digit f c.in_ok-number.number c.in_ok-number.rest.now c.in_ok-number.ensures.0 c.in_ok-number.ensures.1);
}

pub returns-then-next-eq13 : goal.returns-then-next-eq13
returns-then-next-eq13 c = λ f.
    let left : 20 - c.loop.counter ≡ suc (19 - c.loop.counter) = omega (arith, c.loop-test.true) in
    c.loop.invariant.goes_on f ∙ line_end f c.loop.number (20 - c.loop.counter) (19 - c.loop.counter) c.in_ok-next.next.now c.loop.rest.now c.in_ok-next.after.now c.in_ok-rest.rest.now left c.in_ok-next.ensures.cases.0 c.if-next-eq13.true c.in_ok-rest.ensures

pub returns : goal.returns
returns c = λ f.
    let left : 20 - c.loop.counter ≡ 2 = omega (arith, c.loop-test.false, c.loop.auto.counter-end) in
    c.loop.invariant.goes_on f ∙ last_line_end f c.loop.number (20 - c.loop.counter) c.loop.rest.now c.in_ok-rest-2.rest.now left (search rules) (search rules)

pub overflow_mul-number : goal.overflow_mul-number
overflow_mul-number c = omega (arith, few_digits c.loop.number c.loop.counter (omega (arith, c.loop-test.true)) c.loop.invariant.small)

pub overflow_add-number : goal.overflow_add-number
overflow_add-number c = omega (arith, c.in_ok-number-2.ensures.0, few_digits c.loop.number c.loop.counter (omega (arith, c.loop-test.true)) c.loop.invariant.small)

pub loop-preserved : goal.loop-preserved
loop-preserved c = record {
  small = more_digits c.loop.number c.loop.counter c.in_ok-number-2.field-0 c.loop.invariant.small c.in_ok-number-2.ensures.0;
  goes_on = λ f.
      let left : 20 - c.loop.counter ≡ suc (20 - (c.loop.counter + 1)) = omega (arith, c.loop-test.true) in
      c.loop.invariant.goes_on f ∙ next_digit f c.loop.number (c.loop.number * 10 + c.in_ok-number-2.field-0) (20 - c.loop.counter) (20 - (c.loop.counter + 1)) c.in_ok-number-2.field-0 c.in_ok-next.next.now c.loop.rest.now c.in_ok-next.after.now left c.in_ok-number-2.ensures.0 refl c.in_ok-next.ensures.cases.0 c.in_ok-number-2.ensures.1;
}
