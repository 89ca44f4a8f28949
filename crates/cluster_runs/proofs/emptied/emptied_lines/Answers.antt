use Rattle.std.proofs.Common.{[], ◌++◌, ◌∙◌, length, ap, sym, arith}
use Rattle.std.specs.List.{flat_map}
use Rattle.cluster_views.proofs.Firsts.{numbers_from}
use Rattle.plan_language.specs.Lines.{plan_commands}
use Rattle.cluster_runs.specs.Emptied.{emptied_line, emptied_lines}
use Rattle.survey_texts.proofs.Texts.{flat_end, flat_first, flat_more}
use Rattle.cluster_runs.proofs.emptied.emptied_lines.Goals as goal

pub loop-number-init : goal.loop-number-init
loop-number-init c =
    let n = length c.args.survey.now.rows in
    let f = emptied_line c.args.survey.now (plan_commands n c.args.plan.now.lines) in
    flat_first f n [] ∙ ap (λ t. t ++ flat_map f (numbers_from n 0)) (sym c.new-out.ensures.items)

pub loop-number-preserved : goal.loop-number-preserved
loop-number-preserved c =
    let n = length c.args.survey.now.rows in
    let plan = plan_commands n c.args.plan.now.lines in
    flat_more (emptied_line c.args.survey.now plan) n c.loop-number.number c.of.result (emptied_lines c.args.survey.now plan)
    c.loop-number.out.items _ (omega arith) c.of.ensures c.loop-number.invariant c.in_ok-put_line.ensures

pub returns : goal.returns
returns c =
    let n = length c.args.survey.now.rows in
    let plan = plan_commands n c.args.plan.now.lines in
    flat_end (emptied_line c.args.survey.now plan) n c.loop-number.number (emptied_lines c.args.survey.now plan)
    c.loop-number.out.items (omega arith) c.loop-number.invariant
