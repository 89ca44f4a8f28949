use Rattle.std.proofs.Common.{ℕ, ◌++◌, arith}
use Rattle.std.specs.List.{flat_map}
use Rattle.survey_texts.specs.Details.{range_part}
use Rattle.cluster_views.specs.Numbers.{numbers_to}
use Rattle.survey_texts.proofs.Texts.{flat_end, flat_first, flat_more}
use Rattle.survey_texts.proofs.slot_ranges.put_ranges.Goals as goal

pub loop-number-init : goal.loop-number-init
loop-number-init c = flat_first (range_part c.args.survey.now c.args.node) 16384 c.args.out.now.items

pub loop-number-preserved : goal.loop-number-preserved
loop-number-preserved c =
    let text = range_part c.args.survey.now c.args.node in
    let n : ℕ = 16384 in
    flat_more text n c.loop-number.number c.of.result (c.args.out.now.items ++ flat_map text (numbers_to n))
    c.loop-number.out.items _ (omega arith) c.of.ensures c.loop-number.invariant
    c.in_ok-put_part.ensures

pub returns : goal.returns
returns c =
    let text = range_part c.args.survey.now c.args.node in
    let n : ℕ = 16384 in
    flat_end text n c.loop-number.number (c.args.out.now.items ++ flat_map text (numbers_to n)) c.loop-number.out.items
    (omega arith) c.loop-number.invariant
