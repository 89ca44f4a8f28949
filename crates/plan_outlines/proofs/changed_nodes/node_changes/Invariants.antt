use Rattle.std.proofs.Common.{◌≡◌, map}
use Rattle.std.specs.List.{range_with_len}
use Rattle.plan_outlines.specs.Nodes.{change_of_node}
use Rattle.plan_outlines.proofs.changed_nodes.node_changes.Given as goal

abbrev pub invariant-loop-number : goal.invariant-loop-number
invariant-loop-number l = l.changes.items ≡ map (change_of_node l.before l.after) (range_with_len 0 l.number)
