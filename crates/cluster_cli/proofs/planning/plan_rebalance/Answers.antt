use Rattle.std.proofs.Common.{◌≡◌, ℕ, List, [], subst, sym}
use Rattle.cluster_cli.specs.Planning.{IsRebalanceAnswer, NamesNoWeights}
use Rattle.cluster_cli.specs.Said.{IsSaid}
use Rattle.cluster_cli.proofs.Planned.{IsMisused, not_planned, planned}
use Rattle.cluster_inspection.proofs.Told.{told, untold}
use Rattle.cluster_cli.proofs.planning.plan_rebalance.Goals as goal

pub returns-in-Ok-Answer : goal.returns-in-Ok-Answer
returns-in-Ok-Answer g c =
    let says = IsRebalanceAnswer c.args.words.now in
    let names = NamesNoWeights c.args.words.now in
    let t = c.in-Ok-Answer.answer in
    let remark = c.in-Ok-Answer.remark.items in
    let said = subst (IsSaid says names) c.in-Ok-Answer.field-0-is c.in-Ok-Answer.ensures in
    planned says names g.W.ByteOut.took g.W.ByteOut.failures g.E.ByteOut.took g.E.ByteOut.failures
    c.args.writer.now c.args.errors.now remark c.say.new.writer c.say.new.errors c.say.result
    (told (λ s u. says s u remark) g.W.ByteOut.took g.W.ByteOut.failures t.status t.printed.items c.args.writer.now
    c.say.new.writer c.say.result said.1 said.0 c.say.ensures.reported)
    (λ same. subst (λ x. g.E.ByteOut.took c.args.errors.now x c.say.new.errors) c.as_slice.ensures.value
    (c.say.ensures.remarked same))

pub returns-in-Ok-Misnamed : goal.returns-in-Ok-Misnamed
returns-in-Ok-Misnamed g c =
    let says = IsRebalanceAnswer c.args.words.now in
    let names = NamesNoWeights c.args.words.now in
    not_planned says names g.W.ByteOut.took g.W.ByteOut.failures g.E.ByteOut.took g.E.ByteOut.failures
    c.args.writer.now c.args.errors.now c.in-Ok-Misnamed.report.items c.misuse.new.errors c.misuse.result
    (subst (IsSaid says names) c.in-Ok-Misnamed.field-0-is c.in-Ok-Misnamed.ensures)
    (subst (λ (t : List ℕ). IsMisused (record {
      took = g.E.ByteOut.took;
      failures = g.E.ByteOut.failures;
      before = c.args.errors.now;
      after = c.misuse.new.errors;
    }) t c.misuse.result)
    c.as_slice-in-Ok-Misnamed.ensures.value c.misuse.ensures.reported)

pub returns-in-Err : goal.returns-in-Err
returns-in-Err g c =
    let says = IsRebalanceAnswer c.args.words.now in
    planned says (NamesNoWeights c.args.words.now) g.W.ByteOut.took g.W.ByteOut.failures g.E.ByteOut.took
    g.E.ByteOut.failures c.args.writer.now c.args.errors.now [] c.out_of_memory.new.writer c.args.errors.now
    c.out_of_memory.result
    (untold (λ s u. says s u []) g.W.ByteOut.took g.W.ByteOut.failures c.args.writer.now c.out_of_memory.new.writer
    c.out_of_memory.result c.out_of_memory.ensures.status c.out_of_memory.ensures.wrote)
    (λ same. g.met.E.ByteOut.took_none c.args.errors.now)
