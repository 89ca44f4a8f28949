use Rattle.std.proofs.Common.{arith}
use Rattle.resp2_wire.proofs.Written.{smaller}
use Rattle.bench_jobs.proofs.digest.Digest.+replies.Goals as goal

pub replies-reply-requires : goal.replies-reply-requires
replies-reply-requires t c =
    (omega (arith, c.decreases, smaller c.args.replies.now c.loop-reply.reply-index c.reply-item.result c.loop-reply-test.true c.reply-item.is), tt)
