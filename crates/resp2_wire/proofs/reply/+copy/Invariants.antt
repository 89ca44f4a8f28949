use Rattle.std.proofs.Common.{◌≡◌, take}
use Rattle.resp2_wire.proofs.reply.+copy.Given as goal

abbrev pub invariant-ReplyList::try_copy-loop-reply : goal.invariant-ReplyList::try_copy-loop-reply
invariant-ReplyList::try_copy-loop-reply l = l.copies.items ≡ take l.reply-index l.reply-items
