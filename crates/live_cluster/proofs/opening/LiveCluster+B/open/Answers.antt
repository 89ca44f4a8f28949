use Rattle.std.proofs.Common.{◌≤◌, length, subst}
use Rattle.shared_trail.specs.Setups.{Setup}
use Rattle.live_cluster.proofs.opening.LiveCluster+B.open.Goals as goal

pub with_seats-requires-clause-few : goal.with_seats-requires-clause-few
with_seats-requires-clause-few g c =
    subst (λ (s : Setup). length s.opening.nodes ≤ 8) c.requires.setup c.requires.few
