use Rattle.std.proofs.Common.{ℕ, ◌<◌}
use Rattle.cluster_world.specs.Cleanness.{HasTable}
use Rattle.cluster_world.specs.Worlds.{node_at}
use Rattle.cluster_world.proofs.world.World.is_clean.Given as goal

abbrev pub invariant-loop-node : goal.invariant-loop-node
invariant-loop-node l = (k : ℕ) → k < l.node-index → HasTable (node_at l.self k) l.owners.owners
