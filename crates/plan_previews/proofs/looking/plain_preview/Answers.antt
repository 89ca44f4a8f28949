use Rattle.std.proofs.Common.{ap, length, subst, ◌∙◌}
use Rattle.std.proofs.lemmas.Result.{err_from_is_err_and}
use Rattle.byte_streams.specs.Streams.{Input}
use Rattle.cluster_inspection.specs.Starts.{StartsFrom}
use Rattle.plan_language.specs.Lines.{plan_commands}
use Rattle.plan_previews.proofs.Unshown.{at_fault, no_start, plain_shown}
use Rattle.plan_previews.proofs.looking.plain_preview.Goals as goal

pub returns-in_err-owners-clause-unshown : goal.returns-in_err-owners-clause-unshown
returns-in_err-owners-clause-unshown g c =
    let read : Input _ = record {
      gave = g.R.ByteIn.gave;
      ends = g.R.ByteIn.ends;
      failures = g.R.ByteIn.failures;
      before = c.args.reader.now;
      after = c.plan_from.new.reader;
    } in
    let p = err_from_is_err_and c.from_residual-in_err-owners.result c.from_residual-in_err-owners.ensures.1 in
    rw p.1 (no_start read c.args.start.now c.in_err-owners.field-0.0 p.0 c.in_err-owners.ensures.unstarted p.2)

pub returns-in_err-verdict-clause-unshown : goal.returns-in_err-verdict-clause-unshown
returns-in_err-verdict-clause-unshown g c =
    let read : Input _ = record {
      gave = g.R.ByteIn.gave;
      ends = g.R.ByteIn.ends;
      failures = g.R.ByteIn.failures;
      before = c.args.reader.now;
      after = c.plan_from.new.reader;
    } in
    let p = err_from_is_err_and c.from_residual-in_err-verdict.result c.from_residual-in_err-verdict.ensures.1 in
    rw (p.1, p.2)
    (at_fault read c.args.start.now c.in_ok-owners._book c.in_ok-owners.owners c.in_ok-plan.plan c.in_err-verdict.field-0.0 c.in_ok-plan.ensures.plan
    (subst (λ names. StartsFrom c.args.start.now names c.in_ok-owners._book c.in_ok-owners.owners) c.names_listed.ensures.value
    (c.in_ok-owners.ensures.owners c.names_listed.ensures.are)) c.in_err-verdict.ensures.fault)

pub outline-requires-clause-legal : goal.outline-requires-clause-legal
outline-requires-clause-legal g c = c.in_ok-verdict.ensures.verdict.0.0

pub returns-clause-shown : goal.returns-clause-shown
returns-clause-shown g c =
    let read : Input _ = record {
      gave = g.R.ByteIn.gave;
      ends = g.R.ByteIn.ends;
      failures = g.R.ByteIn.failures;
      before = c.args.reader.now;
      after = c.plan_from.new.reader;
    } in
    plain_shown read c.args.start.now c.in_ok-owners._book c.in_ok-owners.owners c.in_ok-plan.plan _ c.in_ok-plan.ensures.plan
    (subst (λ names. StartsFrom c.args.start.now names c.in_ok-owners._book c.in_ok-owners.owners) c.names_listed.ensures.value
    (c.in_ok-owners.ensures.owners c.names_listed.ensures.are))
    (record {
      verdict = c.in_ok-verdict.ensures.verdict;
      commands = c.expanded_len.ensures ∙ ap (λ n. length (plan_commands n c.in_ok-plan.plan.lines)) c.nodes.ensures.value;
      version = c.version.ensures.value;
      outline = c.in_ok-outline.ensures;
    })
    c.new.ensures.items
