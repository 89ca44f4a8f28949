use Rattle.std.proofs.Common.{◌≡◌, ◌++◌}
use Rattle.cluster_reports.specs.NodeLines.{slot_mark}
use Rattle.cluster_reports.specs.Numbered.{below}
use Rattle.cluster_reports.proofs.node_lines.put_marks.Given as goal

-- the marks of the slots before
abbrev pub invariant-loop-number : goal.invariant-loop-number
invariant-loop-number l = l.out.items ≡ l.fn.out.items ++ below (slot_mark l.table) l.number
