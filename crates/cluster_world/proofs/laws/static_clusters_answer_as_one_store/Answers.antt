use Rattle.cluster_world.proofs.Statically.{static_cluster}
use Rattle.cluster_world.proofs.laws.static_clusters_answer_as_one_store.Goals as goal

pub returns : goal.returns
returns c = static_cluster
