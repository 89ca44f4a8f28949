use Rattle.std.proofs.Common.{◌≡◌, take, map}
use Rattle.cluster_node.specs.Nodes.{is_present}
use Rattle.cluster_node.proofs.node.Node.verdict.Given as goal

abbrev pub invariant-loop-key : goal.invariant-loop-key
invariant-loop-key l = l.present.items ≡ map (is_present l.self.node) (take l.key-index l.keys)
