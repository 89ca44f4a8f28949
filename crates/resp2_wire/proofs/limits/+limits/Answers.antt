use Rattle.std.proofs.Common.{◌<◌, ◌≤◌, sym, ap, ◌∙◌, arith}
use Rattle.resp2_wire.proofs.Written.{smaller}
use Rattle.resp2_wire.specs.Encoding.{length_of}
use Rattle.resp2_wire.specs.Limits.{are_within}
use Rattle.resp2_wire.proofs.LimitTests.{length_of-trees, too_many, few}
use Rattle.resp2_wire.proofs.limits.+limits.Goals as goal

pub are_within-is_within-requires : goal.are_within-is_within-requires
are_within-is_within-requires t c =
    (omega (arith, c.decreases, smaller c.args.replies.now c.loop-reply.reply-index c.reply-item.result c.loop-reply-test.true c.reply-item.is), tt)

pub is_within-returns-then-replies-gt-MAX_REPLIES : goal.is_within-returns-then-replies-gt-MAX_REPLIES
is_within-returns-then-replies-gt-MAX_REPLIES t c =
    let size = length_of-trees c.get-replies.result.now in
    let many : 2097152 < length_of c.in-Array.list = omega (arith, size, ap length_of c.get-replies.ensures) in
    rw c.in-Array.is (sym (too_many c.args.depth c.in-Array.list (omega arith) many))

pub is_within-returns-else-replies-gt-MAX_REPLIES : goal.is_within-returns-else-replies-gt-MAX_REPLIES
is_within-returns-else-replies-gt-MAX_REPLIES t c =
    let size = length_of-trees c.get-replies.result.now in
    let le : length_of c.in-Array.list ≤ 2097152 = omega (arith, size, ap length_of c.get-replies.ensures) in
    rw c.in-Array.is (c.are_within.ensures ∙ ap (are_within _) c.get-replies.ensures ∙ sym (few c.args.depth c.in-Array.list (omega arith) le))
