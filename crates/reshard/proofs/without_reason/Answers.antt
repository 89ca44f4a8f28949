use Rattle.std.proofs.Common.{codes}
use Rattle.reshard.proofs.Told.{cut_at_end, on_err}
use Rattle.reshard.proofs.without_reason.Goals as goal

pub returns-clause-failed : goal.returns-clause-failed
returns-clause-failed g c = on_err c.write_whole-2.result c.write_whole-2.ensures.failed (λ failed.
    cut_at_end g.E.ByteOut.took g.E.ByteOut.failures g.met.E.ByteOut.took_then c.args.line.now (codes "\n")
    c.in_ok-write_whole.ensures.wrote.0 c.write_whole-2.ensures.wrote.0 c.args.errors.now c.write_whole.new.writer
    c.write_whole-2.new.writer c.in_ok-write_whole.ensures.wrote.2 c.in_ok-write_whole.ensures.wrote.3
    c.in_ok-write_whole.ensures.kept c.write_whole-2.ensures.wrote.2 failed)
