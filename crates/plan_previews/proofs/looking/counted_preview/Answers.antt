use Rattle.std.proofs.lemmas.Result.{IfOk-weaker, err_from_is_err_and}
use Rattle.byte_streams.specs.Streams.{Input}
use Rattle.plan_previews.proofs.Unshown.{at_cluster_fault, counted_shown, err_weaker, not_found}
use Rattle.plan_previews.proofs.looking.counted_preview.Goals as goal

pub returns-in_err-servers-clause-unshown : goal.returns-in_err-servers-clause-unshown
returns-in_err-servers-clause-unshown g c =
    let read : Input _ = record {
      gave = g.R.ByteIn.gave;
      ends = g.R.ByteIn.ends;
      failures = g.R.ByteIn.failures;
      before = c.args.reader.now;
      after = c.plan_in.new.reader;
    } in
    let p = err_from_is_err_and c.from_residual-in_err-servers.result c.from_residual-in_err-servers.ensures.1 in
    rw p.1 (not_found read c.args.words.now c.in_err-servers.field-0.0 p.0 c.in_err-servers.ensures.unfound p.2)

pub returns-then-not-is_clean-clause-unshown : goal.returns-then-not-is_clean-clause-unshown
returns-then-not-is_clean-clause-unshown g c =
    let read : Input _ = record {
      gave = g.R.ByteIn.gave;
      ends = g.R.ByteIn.ends;
      failures = g.R.ByteIn.failures;
      before = c.args.reader.now;
      after = c.plan_in.new.reader;
    } in
    not_found read c.args.words.now c.in_ok-open_slots.field-0 c.from.result c.in_ok-open_slots.ensures c.from.ensures

pub returns-clause-shown : goal.returns-clause-shown
returns-clause-shown g c =
    let read : Input _ = record {
      gave = g.R.ByteIn.gave;
      ends = g.R.ByteIn.ends;
      failures = g.R.ByteIn.failures;
      before = c.args.reader.now;
      after = c.plan_in.new.reader;
    } in
    IfOk-weaker c.preview_at.result _ _ (λ p at. counted_shown read c.in_ok-plan.plan p c.in_ok-plan.ensures.plan at)
    c.preview_at.ensures.shown

pub returns-clause-unshown : goal.returns-clause-unshown
returns-clause-unshown g c =
    let read : Input _ = record {
      gave = g.R.ByteIn.gave;
      ends = g.R.ByteIn.ends;
      failures = g.R.ByteIn.failures;
      before = c.args.reader.now;
      after = c.plan_in.new.reader;
    } in
    err_weaker c.preview_at.result _ _ (λ r why. at_cluster_fault read c.args.words.now c.in_ok-plan.plan r c.in_ok-plan.ensures.plan why)
    c.preview_at.ensures.unshown
