use Rattle.std.proofs.Common.{◌∙◌, ap, arith, false, get_or}
use Rattle.cluster_inspection.proofs.Listing.{is_below, none_yet, one_more}
use Rattle.cluster_inspection.proofs.naming.names_of.Goals as goal

pub loop-number-init : goal.loop-number-init
loop-number-init c = none_yet c.args.book.now c.args.lines.now c.new-names.result c.new-names.ensures

pub put_if-requires-clause-above : goal.put_if-requires-clause-above
put_if-requires-clause-above c =
    is_below c.args.book.now c.args.lines.now c.loop-number.names c.loop-number.number c.of.result c.loop-number.invariant
    c.of.ensures

pub loop-number-preserved : goal.loop-number-preserved
loop-number-preserved c =
    let marks = c.marks_of-marks.result in
    one_more c.args.book.now c.args.lines.now c.loop-number.names c.put_if.new.names c.loop-number.number c.of.result
    (get_or marks c.from.result false) c.of.ensures
    (ap (λ k. get_or marks k false) c.from.ensures
    ∙ c.marks_of-marks.ensures.1 c.loop-number.number (omega (arith, c.loop-number-test.true, c.nodes-number-end.ensures.most)))
    c.loop-number.invariant c.in_ok-put_if.ensures
