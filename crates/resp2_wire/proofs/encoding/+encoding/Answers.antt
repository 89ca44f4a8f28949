use Rattle.std.proofs.Common.{◌≡◌, ◌++◌, length, decimal, refl, arith}
use Rattle.std.proofs.lemmas.Result.{on_ok_weaker}
use Rattle.resp2_wire.specs.Encoding.{line}
use Rattle.resp2_wire.proofs.Written.{one_written, one_typed, smaller, an_array}
use Rattle.resp2_wire.proofs.encoding.+encoding.Goals as goal

pub push_all-loop-reply-preserved : goal.push_all-loop-reply-preserved
push_all-loop-reply-preserved t c = record {
  written = one_written c.args.replies.now c.loop-reply.reply-index c.reply-item.result c.args.out.now.items c.loop-reply.out.items _ c.loop-reply-test.true c.reply-item.is c.loop-reply.invariant.written c.in_ok-push_reply.ensures.encoding;
  typed = one_typed c.args.replies.now c.loop-reply.reply-index c.reply-item.result c.loop-reply-test.true c.reply-item.is c.loop-reply.invariant.typed c.in_ok-push_reply.ensures.typed;
}

pub push_reply-returns-in_ok-push_count-in-Array-clause-encoding : goal.push_reply-returns-in_ok-push_count-in-Array-clause-encoding
push_reply-returns-in_ok-push_count-in-Array-clause-encoding t c =
    on_ok_weaker c.push_all.result (λ e. rw c.in-Array.is (an_array c.in-Array.list c.get-replies.result.now c.args.out.now.items c.push_count.new.out.items _ c.get-replies.ensures c.in_ok-push_count-in-Array.ensures e)) c.push_all.ensures.encoding

pub push_all-push_reply-requires : goal.push_all-push_reply-requires
push_all-push_reply-requires t c = (omega (arith, c.decreases, smaller c.args.replies.now c.loop-reply.reply-index c.reply-item.result c.loop-reply-test.true c.reply-item.is), tt)
