use Rattle.live_cluster.proofs.Returned.{trails_are_their_lists}
use Rattle.live_cluster.proofs.laws.closed_trails_are_their_lists.Goals as goal

pub returns : goal.returns
returns c = trails_are_their_lists
