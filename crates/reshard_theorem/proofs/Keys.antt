-- What stands at a key of a MIGRATE's target after it has taken the batch over.
use Rattle.std.proofs.Common.{◌≡◌, cond, ◌&&◌, List, is_some}
use Rattle.std.specs.FinMap.{get}
use Rattle.store_commands.specs.Store.{Key, is_named}
use Rattle.slot_keyspace.proofs.Standing.{get-with_batch}
use Rattle.cluster_node.specs.Nodes.{Node}
use Rattle.cluster_node.specs.Administration.{target_if_accepted}

pub get-taken_over : (from target : Node) (ks : List Key) (q : Key) → get (target_if_accepted from target ks).held q ≡ cond (is_named q ks && is_some (get from.held q)) (get from.held q) (get target.held q)
unfolding target_if_accepted
get-taken_over from target ks q = get-with_batch target.held from.held ks q
