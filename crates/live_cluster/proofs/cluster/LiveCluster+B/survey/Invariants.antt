use Rattle.std.proofs.Common.{◌≡◌}
use Rattle.live_cluster.proofs.Surveyed.{SoFar}
use Rattle.live_cluster.proofs.cluster.LiveCluster+B.survey.Given as goal

abbrev pub invariant-loop-number : goal.invariant-loop-number
invariant-loop-number g l = (l.seat ≡ l.fn.seat) × SoFar g.B.ClusterBrand.setup.opening l.fn.seat l.number l.tables.items
