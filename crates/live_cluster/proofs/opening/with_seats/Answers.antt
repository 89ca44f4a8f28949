use Rattle.std.proofs.Common.{◌∙◌}
use Rattle.live_cluster.proofs.Rests.{rest_whole}
use Rattle.live_cluster.proofs.opening.with_seats.Goals as goal

pub open-locks-requires-clause-rest : goal.open-locks-requires-clause-rest
open-locks-requires-clause-rest g c =
    rest_whole g.B.ClusterBrand.setup.opening _ c.into_nodes-row.result.items c.into_nodes-row.ensures.nodes (c.into_nodes-row.ensures.world ∙ c.requires.world)
