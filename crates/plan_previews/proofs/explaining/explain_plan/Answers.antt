use Rattle.std.proofs.Common.{inl}
use Rattle.byte_streams.specs.Streams.{Input}
use Rattle.cluster_inspection.proofs.Told.{told}
use Rattle.plan_previews.specs.Explaining.{SaysExplained}
use Rattle.plan_previews.proofs.Told.{few}
use Rattle.plan_previews.proofs.explaining.explain_plan.Goals as goal

pub returns-in-Ok : goal.returns-in-Ok
returns-in-Ok g c =
    let read : Input _ = record {
      gave = g.R.ByteIn.gave;
      ends = g.R.ByteIn.ends;
      failures = g.R.ByteIn.failures;
      before = c.args.reader.now;
      after = c.explanation.new.reader;
    } in
    inl (told (SaysExplained c.args.words.now read) g.W.ByteOut.took g.W.ByteOut.failures c.in-Ok.answer.status
    c.in-Ok.answer.printed.items c.args.writer.now c.report.new.writer c.report.result c.in-Ok.ensures
    (few c.args.words.now read c.in-Ok.answer.status c.in-Ok.answer.printed.items c.in-Ok.ensures) c.report.ensures.reported)
