use Rattle.std.proofs.Common.{◌≤◌, ℕ, List, [], Option, refl, subst}
use Rattle.std.specs.Prelude.{IfSome, MatchOption}
use Rattle.transcripts.specs.declared.transcript.Transcript.{Transcript}
use Rattle.cluster_cli.specs.Forgetting.{ForgetNamesNone, ForgetSays}
use Rattle.node_forgetting.specs.Forgetting.{IsForgetAnswer, NamesNoNode}
use Rattle.cluster_cli.proofs.Planned.{IsMisused, not_planned, planned}
use Rattle.cluster_inspection.proofs.Told.{told, untold}
use Rattle.cluster_cli.proofs.forgetting.forget_node.Goals as goal

pub returns-in-Ok-Some : goal.returns-in-Ok-Some
returns-in-Ok-Some g c =
    let says = ForgetSays c.args.words.now in
    let t = c.in-Ok-Some.answer in
    planned says (ForgetNamesNone c.args.words.now) g.W.ByteOut.took g.W.ByteOut.failures g.E.ByteOut.took
    g.E.ByteOut.failures c.args.writer.now c.args.errors.now [] c.report.new.writer c.args.errors.now c.report.result
    (told (λ s u. says s u []) g.W.ByteOut.took g.W.ByteOut.failures t.status t.printed.items c.args.writer.now
    c.report.new.writer c.report.result (
      subst (λ (o : Option Transcript). MatchOption o (NamesNoNode c.args.words.now)
          (λ x. IsForgetAnswer c.args.words.now x.status x.printed.items))
          c.in-Ok-Some.field-0-is c.in-Ok-Some.ensures.says,
      refl,
    )
    (subst (λ (o : Option Transcript). IfSome o (λ x. x.status ≤ 1)) c.in-Ok-Some.field-0-is
    c.in-Ok-Some.ensures.status)
    c.report.ensures.reported)
    (λ same. g.met.E.ByteOut.took_none c.args.errors.now)

pub returns-in-Ok-None : goal.returns-in-Ok-None
returns-in-Ok-None g c =
    not_planned (ForgetSays c.args.words.now) (ForgetNamesNone c.args.words.now) g.W.ByteOut.took g.W.ByteOut.failures
    g.E.ByteOut.took g.E.ByteOut.failures c.args.writer.now c.args.errors.now _ c.misuse.new.errors c.misuse.result (
      subst (λ (o : Option Transcript). MatchOption o (NamesNoNode c.args.words.now)
          (λ x. IsForgetAnswer c.args.words.now x.status x.printed.items)) c.in-Ok-None.field-0-is c.in-Ok-None.ensures.says,
      refl,
    )
    (subst (λ (t : List ℕ). IsMisused (record {
      took = g.E.ByteOut.took;
      failures = g.E.ByteOut.failures;
      before = c.args.errors.now;
      after = c.misuse.new.errors;
    }) t c.misuse.result)
    c.as_bytes.ensures.value c.misuse.ensures.reported)

pub returns-in-Err : goal.returns-in-Err
returns-in-Err g c =
    planned (ForgetSays c.args.words.now) (ForgetNamesNone c.args.words.now) g.W.ByteOut.took g.W.ByteOut.failures
    g.E.ByteOut.took g.E.ByteOut.failures c.args.writer.now c.args.errors.now [] c.out_of_memory.new.writer
    c.args.errors.now c.out_of_memory.result
    (untold (λ s u. ForgetSays c.args.words.now s u []) g.W.ByteOut.took g.W.ByteOut.failures c.args.writer.now
    c.out_of_memory.new.writer c.out_of_memory.result c.out_of_memory.ensures.status c.out_of_memory.ensures.wrote)
    (λ same. g.met.E.ByteOut.took_none c.args.errors.now)
