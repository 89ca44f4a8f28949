use Rattle.std.proofs.Common.{inl, inr}
use Rattle.byte_streams.specs.Streams.{Input}
use Rattle.cluster_inspection.specs.VerifyingFrom.{SaysFrom}
use Rattle.cluster_inspection.proofs.FileRead.{few_from}
use Rattle.cluster_inspection.proofs.Told.{told}
use Rattle.cluster_inspection.proofs.plain_verdicts.verify_plainly.Goals as goal

pub returns-in-Ok : goal.returns-in-Ok
returns-in-Ok g c =
    let says = c.in-Ok.ensures.says in
    let read : Input _ = record {
      gave = g.R.ByteIn.gave;
      ends = g.R.ByteIn.ends;
      failures = g.R.ByteIn.failures;
      before = c.args.reader.now;
      after = c.answer_from.new.reader;
    } in
    inl (told (SaysFrom c.args.start.now read) g.W.ByteOut.took
    g.W.ByteOut.failures c.in-Ok.answer.status c.in-Ok.answer.printed.items c.args.writer.now c.report.new.writer
    c.report.result says
    (few_from c.args.start.now says.0 c.in-Ok.answer.status c.in-Ok.answer.printed.items says.2)
    c.report.ensures.reported)

pub returns-in-Err : goal.returns-in-Err
returns-in-Err g c = inr c.report_refusal.ensures
