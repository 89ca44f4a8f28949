use Rattle.cluster_inspection.proofs.Told.{told}
use Rattle.cluster_inspection.proofs.stranded.tell_stranded.Goals as goal

pub returns-in-Ok : goal.returns-in-Ok
returns-in-Ok g c =
    told _ g.W.ByteOut.took g.W.ByteOut.failures c.in-Ok.answer.status c.in-Ok.answer.printed.items c.args.writer.now
    c.report.new.writer c.report.result c.in-Ok.ensures.says c.in-Ok.ensures.status c.report.ensures.reported
