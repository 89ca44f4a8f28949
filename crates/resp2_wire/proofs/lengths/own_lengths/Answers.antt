use Rattle.std.proofs.Common.{◌∙◌}
use Rattle.resp2_wire.proofs.Measured.{one_measured}
use Rattle.resp2_wire.proofs.lengths.own_lengths.Goals as goal

pub loop-reply-preserved : goal.loop-reply-preserved
loop-reply-preserved c = c.saturating_add-total.ensures ∙ one_measured c.args.replies.now c.loop-reply.reply-index c.reply-item.result c.loop-reply.total c.own_length.result c.loop-reply-test.true c.reply-item.is c.loop-reply.invariant c.own_length.ensures.value
