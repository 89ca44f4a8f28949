use Rattle.std.proofs.Common.{arith}
use Rattle.resp2_wire.proofs.CountLines.{one_digit, pushed, two_digits}
use Rattle.resp2_wire.proofs.encoding.push_count.Goals as goal

pub returns-then-count-lt10 : goal.returns-then-count-lt10
returns-then-count-lt10 c =
    pushed c.extend_from_slice.result _ c.args.out.now.items _ _ c.extend_from_slice.ensures.items
    (one_digit c.args.mark c.args.count (omega (arith, c.if-count-lt10.true)))

pub returns-then-count-lt100 : goal.returns-then-count-lt100
returns-then-count-lt100 c =
    pushed c.extend_from_slice-then-count-lt100.result _ c.args.out.now.items _ _
    c.extend_from_slice-then-count-lt100.ensures.items
    (two_digits c.args.mark c.args.count (omega (arith, c.if-count-lt10.false)) (omega (arith, c.if-count-lt100.true)))
