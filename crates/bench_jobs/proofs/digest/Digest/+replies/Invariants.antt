use Rattle.resp2_wire.specs.Tree.{count, counts}
use Rattle.resp2_wire.specs.View.{tree, trees}
use Rattle.bench_jobs.proofs.digest.Digest.+replies.Given as goal

abbrev pub decreases-reply : goal.decreases-reply
decreases-reply l = count (tree l.reply.now)

abbrev pub decreases-replies : goal.decreases-replies
decreases-replies l = counts (trees l.replies.now)
