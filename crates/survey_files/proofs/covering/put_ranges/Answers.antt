use Rattle.std.proofs.Common.{arith}
use Rattle.survey_files.proofs.Filling.{range_put}
use Rattle.survey_files.proofs.covering.put_ranges.Goals as goal

pub loop-range-preserved : goal.loop-range-preserved
loop-range-preserved c =
    range_put c.args.ranges.now c.loop-range.range-index c.range-item.result c.loop-range.row c.put_range.new.row (omega arith)
    c.range-item.is c.loop-range.invariant c.in_ok-put_range.ensures.told c.in_ok-put_range.ensures.free
