use Rattle.survey_files.proofs.Filling.{ArePutUpTo}
use Rattle.survey_files.proofs.covering.put_ranges.Given as goal

-- the ranges before were put
abbrev pub invariant-loop-range : goal.invariant-loop-range
invariant-loop-range l = ArePutUpTo l.ranges l.range-index l.row
