use Rattle.std.proofs.Common.{length, ◌++◌, ap, ◌∙◌, arith}
use Rattle.std.specs.List.{flat_map}
use Rattle.std.specs.Prelude.{codes}
use Rattle.survey_texts.specs.Texts.{coming_line, mark_line}
use Rattle.cluster_views.specs.Numbers.{numbers_to}
use Rattle.survey_texts.proofs.Texts.{flat_end, flat_first, flat_more}
use Rattle.survey_texts.proofs.printing.put_coming.Goals as goal

pub loop-number-init : goal.loop-number-init
loop-number-init c = flat_first (coming_line c.args.survey.now c.args.slot) (length c.args.survey.now.rows) c.args.out.now.items

pub loop-number-preserved : goal.loop-number-preserved
loop-number-preserved c =
    let text = coming_line c.args.survey.now c.args.slot in
    let n = length c.args.survey.now.rows in
    flat_more text n c.loop-number.number c.of-node.result (c.args.out.now.items ++ flat_map text (numbers_to n))
    c.loop-number.out.items _ (omega arith) c.of-node.ensures c.loop-number.invariant
    (c.in_ok-put_mark.ensures
    ∙ ap (λ o. c.loop-number.out.items ++ mark_line c.args.slot (codes " importing from ") c.of-node.result o)
    c.importing.ensures.value)

pub returns : goal.returns
returns c =
    let text = coming_line c.args.survey.now c.args.slot in
    let n = length c.args.survey.now.rows in
    flat_end text n c.loop-number.number (c.args.out.now.items ++ flat_map text (numbers_to n)) c.loop-number.out.items
    (omega arith) c.loop-number.invariant
