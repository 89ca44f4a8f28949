use Rattle.std.proofs.Common.{◌≡◌, drop}
use Rattle.resp2_wire.specs.Tree.{count, counts}
use Rattle.resp2_wire.specs.View.{tree, trees}
use Rattle.resp2_wire.specs.Limits.{are_within}
use Rattle.resp2_wire.proofs.limits.+limits.Given as goal

abbrev pub decreases-is_within : goal.decreases-is_within
decreases-is_within l = count (tree l.reply.now)

abbrev pub decreases-are_within : goal.decreases-are_within
decreases-are_within l = counts (trees l.replies.now)

abbrev pub invariant-are_within-loop-reply : goal.invariant-are_within-loop-reply
invariant-are_within-loop-reply l = are_within l.depth (trees (drop l.reply-index l.replies)) ≡ are_within l.depth (trees l.replies)
