use Rattle.cluster_inspection.proofs.Told.{told}
use Rattle.cluster_inspection.proofs.survey.print_survey.Goals as goal

pub returns-in-Ok-clause-tells : goal.returns-in-Ok-clause-tells
returns-in-Ok-clause-tells g c =
    told _ g.W.ByteOut.took g.W.ByteOut.failures c.in-Ok.answer.status c.in-Ok.answer.printed.items c.args.writer.now
    c.report.new.writer c.report.result c.in-Ok.ensures.says c.in-Ok.ensures.status c.report.ensures.reported
