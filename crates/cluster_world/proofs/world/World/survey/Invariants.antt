use Rattle.std.proofs.Common.{◌≡◌, length}
use Rattle.cluster_world.specs.Worlds.{row_of, node_at}
use Rattle.cluster_admin.proofs.Surveyed.{Copied}
use Rattle.cluster_world.proofs.world.World.survey.Given as goal

abbrev pub invariant-loop-node : goal.invariant-loop-node
invariant-loop-node l = (length l.tables.items ≡ l.node-index) × Copied (length l.self.nodes) (λ n. row_of (node_at l.self n)) l.tables.items
