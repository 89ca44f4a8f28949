use Rattle.std.proofs.Common.{◌≡◌, ◌++◌, take}
use Rattle.resp2_wire.specs.Tree.{count, counts}
use Rattle.resp2_wire.specs.View.{tree, trees}
use Rattle.resp2_wire.specs.Encoding.{spellings}
use Rattle.resp2_wire.specs.Limits.{AllTyped}
use Rattle.resp2_wire.proofs.encoding.+encoding.Given as goal

abbrev pub decreases-push_reply : goal.decreases-push_reply
decreases-push_reply l = count (tree l.reply.now)

abbrev pub decreases-push_all : goal.decreases-push_all
decreases-push_all l = counts (trees l.replies.now)

abbrev pub invariant-push_all-loop-reply : goal.invariant-push_all-loop-reply
invariant-push_all-loop-reply l = record {
  written : l.out.items ≡ l.initial.out.items ++ spellings (trees (take l.reply-index l.replies));
  typed : AllTyped (trees (take l.reply-index l.replies));
}
