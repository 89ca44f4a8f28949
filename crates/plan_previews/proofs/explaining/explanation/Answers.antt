use Rattle.std.proofs.Common.{inl}
use Rattle.std.proofs.lemmas.Result.{IfOk-weaker}
use Rattle.byte_streams.specs.Streams.{Input}
use Rattle.plan_previews.proofs.Told.{refused_says}
use Rattle.plan_previews.proofs.explaining.explanation.Goals as goal

pub returns-in_ok-explained-in-Ok : goal.returns-in_ok-explained-in-Ok
returns-in_ok-explained-in-Ok g c =
    inl (c.in-Ok.preview, c.in-Ok.ensures.shown, c.in_ok-explained-in-Ok.ensures.status, c.in_ok-explained-in-Ok.ensures.text)

pub returns-in-Err : goal.returns-in-Err
returns-in-Err g c =
    let read : Input _ = record {
      gave = g.R.ByteIn.gave;
      ends = g.R.ByteIn.ends;
      failures = g.R.ByteIn.failures;
      before = c.args.reader.now;
      after = c.preview_from.new.reader;
    } in
    IfOk-weaker c.refused.result _ _ (λ t is. refused_says c.args.words.now read c.in-Err.refusal t c.in-Err.ensures.unshown is)
    c.refused.ensures
