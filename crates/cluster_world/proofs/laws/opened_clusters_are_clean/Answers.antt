use Rattle.cluster_world.proofs.OpenedClean.{opened_is_clean}
use Rattle.cluster_world.proofs.laws.opened_clusters_are_clean.Goals as goal

pub returns : goal.returns
returns c = opened_is_clean
