use Rattle.std.proofs.Common.{◌≡◌, ℕ, ◌<◌}
use Rattle.cluster_admin.specs.Surveys.{row_at}
use Rattle.cluster_world.specs.Worlds.{row_of, node_at}
use Rattle.cluster_world.proofs.world.World.matches.Given as goal

abbrev pub invariant-loop-node : goal.invariant-loop-node
invariant-loop-node l = (n : ℕ) → n < l.node-index → row_at l.survey n ≡ row_of (node_at l.self n)
