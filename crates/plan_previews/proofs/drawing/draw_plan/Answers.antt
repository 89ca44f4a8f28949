use Rattle.std.proofs.Common.{inl, refl}
use Rattle.byte_streams.specs.Streams.{Input, Output}
use Rattle.plan_previews.proofs.Told.{undrawn}
use Rattle.plan_previews.proofs.drawing.draw_plan.Goals as goal

pub returns-in-Ok : goal.returns-in-Ok
returns-in-Ok g c = inl (c.in-Ok.preview, c.in-Ok.ensures.shown, c.put_drawing.ensures)

pub returns-in-Err : goal.returns-in-Err
returns-in-Err g c =
    let read : Input _ = record {
      gave = g.R.ByteIn.gave;
      ends = g.R.ByteIn.ends;
      failures = g.R.ByteIn.failures;
      before = c.args.reader.now;
      after = c.plain_preview.new.reader;
    } in
    let out : Output _ = record {
      took = g.W.ByteOut.took;
      failures = g.W.ByteOut.failures;
      before = c.args.writer.now;
      after = c.args.writer.now;
    } in
    let told : Output _ = record {
      took = g.E.ByteOut.took;
      failures = g.E.ByteOut.failures;
      before = c.args.errors.now;
      after = c.tell.new.errors;
    } in
    undrawn c.args.start.now read out told c.tell.result c.in-Err.refusal refl c.in-Err.ensures.unshown c.tell.ensures
