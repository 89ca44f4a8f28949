use Rattle.cluster_world.proofs.Opening.{Opened}
use Rattle.cluster_world.proofs.world.World.open.Given as goal

abbrev pub invariant-loop-number : goal.invariant-loop-number
invariant-loop-number l = Opened l.base_port l.fn.owners l.number l.nodes.items
