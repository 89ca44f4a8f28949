use Rattle.std.proofs.Common.{◌≡◌, map, take}
use Rattle.resp2_wire.specs.View.{tree}
use Rattle.cluster_node.specs.Redirections.{range_tree}
use Rattle.cluster_node.proofs.looking.entries_of.Given as goal

abbrev pub invariant-loop-range : goal.invariant-loop-range
invariant-loop-range l = map tree l.entries.items ≡ map (range_tree l.base_port) (take l.range-index l.ranges)
