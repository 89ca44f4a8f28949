use Rattle.std.proofs.Common.{take}
use Rattle.cluster_inspection.specs.Mentioned.{AreMarks}
use Rattle.cluster_inspection.proofs.mentioned.marks_of.Given as goal

-- the lines before are marked
abbrev pub invariant-loop-line : goal.invariant-loop-line
invariant-loop-line l = AreMarks (take l.line-index l.lines) l.marks
