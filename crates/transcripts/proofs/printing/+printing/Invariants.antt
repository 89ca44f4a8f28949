use Rattle.std.proofs.Common.{◌≡◌, ◌++◌, take}
use Rattle.resp2_wire.specs.Tree.{count, counts}
use Rattle.resp2_wire.specs.View.{tree, trees}
use Rattle.transcripts.specs.Printing.{all_shown}
use Rattle.transcripts.proofs.printing.+printing.Given as goal

abbrev pub decreases-print_reply : goal.decreases-print_reply
decreases-print_reply l = count (tree l.reply.now)

abbrev pub decreases-print_replies : goal.decreases-print_replies
decreases-print_replies l = counts (trees l.replies.now)

abbrev pub invariant-print_replies-loop-reply : goal.invariant-print_replies-loop-reply
invariant-print_replies-loop-reply l = l.printed.items ≡ l.initial.printed.items ++ all_shown l.indent
    (trees (take l.reply-index l.replies))
