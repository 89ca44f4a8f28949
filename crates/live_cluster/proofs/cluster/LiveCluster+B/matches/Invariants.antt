use Rattle.std.proofs.Common.{◌≡◌, ℕ, ◌<◌}
use Rattle.cluster_admin.specs.Surveys.{row_at}
use Rattle.shared_trail.specs.Surveying.{row_by_calls}
use Rattle.live_cluster.proofs.cluster.LiveCluster+B.matches.Given as goal

abbrev pub invariant-loop-number : goal.invariant-loop-number
invariant-loop-number g l = (l.seat ≡ l.fn.seat)
    × ((n : ℕ) → n < l.number → row_at l.survey n ≡ row_by_calls g.B.ClusterBrand.setup.opening l.fn.seat n)
