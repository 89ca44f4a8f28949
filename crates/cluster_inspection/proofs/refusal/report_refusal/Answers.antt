use Rattle.cluster_inspection.proofs.Started.{told_refusal}
use Rattle.cluster_inspection.proofs.refusal.report_refusal.Goals as goal

pub returns-in-Answer : goal.returns-in-Answer
returns-in-Answer g c =
    told_refusal g.W.ByteOut.took g.W.ByteOut.failures c.args.refusal c.in-Answer.answer c.args.writer.now c.report.new.writer
    c.report.result c.in-Answer.is c.requires c.report.ensures.reported
