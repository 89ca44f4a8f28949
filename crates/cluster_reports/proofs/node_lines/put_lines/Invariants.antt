use Rattle.std.proofs.Common.{◌≡◌, ◌++◌}
use Rattle.cluster_reports.specs.NodeLines.{node_line}
use Rattle.cluster_reports.specs.Numbered.{below}
use Rattle.cluster_reports.proofs.node_lines.put_lines.Given as goal

-- the lines of the nodes before
abbrev pub invariant-loop-number : goal.invariant-loop-number
invariant-loop-number l = l.out.items ≡ l.fn.out.items ++ below (node_line l.base_port l.table) l.number
