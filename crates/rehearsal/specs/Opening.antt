-- The cluster that a script's first line opens.
use Rattle.std.specs.Prelude.{◌≡◌, ℕ, List, Ok}
use Rattle.key_slots.specs.Owners.{Owners, IsEvenSplit}
use Rattle.cluster_world.specs.WorldView.{new_world}
use Rattle.script_lines.specs.Forms.{opening}
use Rattle.script_lines.specs.declared.sizes.ClusterSizes.{ClusterSizes}
use Rattle.cluster_world.specs.Recorded.{Recorded, begun}

-- as many nodes as the line says, empty, at the ports from 7000 on, and the slots split evenly among the first of them;
-- the trail begins there
pub record IsOpened (line : List ℕ) (r : Recorded) : Type 0 where
  pub sizes : ClusterSizes
  pub table : Owners
  pub reported : opening line ≡ Ok sizes
  pub split : IsEvenSplit sizes.nodes sizes.owning table
  pub is : r ≡ begun (new_world 7000 table.nodes table.owners)
