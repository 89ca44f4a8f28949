use Rattle.std.proofs.Common.{length}
use Rattle.bench_jobs.proofs.digest.Digest.bytes.Given as goal

abbrev pub decreases-loop-left : goal.decreases-loop-left
decreases-loop-left l = length l.left
