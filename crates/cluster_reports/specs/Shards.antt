-- What a node answers to CLUSTER SHARDS: an entry for each node (the page of CLUSTER SHARDS). A map is an array of
-- names and values in turn, as RESP2 spells it.
use Rattle.std.specs.Prelude.{ℕ, ◌+◌, ◌==◌, cond, List, [], ◌∷◌, ◌++◌, codes, pos}
use Rattle.std.specs.List.{flat_map}
use Rattle.key_slots.specs.Ranges.{owner_ranges}
use Rattle.key_slots.specs.declared.slot_range.SlotRange.{SlotRange}
use Rattle.resp2_wire.specs.Tree.{Tree, array, bulk, number, trees_of}
use Rattle.resp2_wire.specs.declared.reply.Reply.{Reply}
use Rattle.resp2_wire.specs.declared.reply.Reply.TheVariants.{Array}
use Rattle.slot_marks.specs.Tables.{Table}
use Rattle.cluster_node.specs.Redirections.{id_of, ip}
use Rattle.cluster_reports.specs.Numbered.{below}

-- a name and its value
unfoldable pub fact : (name : List ℕ) → Tree → List Tree
fact name value = bulk name ∷ (value ∷ [])

-- the first slot and the last one, if the range is the node's
abbrev pub bounds_of : (node : ℕ) → SlotRange → List Tree
bounds_of n r = cond (r.owner == n) (number (pos r.first) ∷ (number (pos r.last) ∷ [])) []

abbrev pub address_facts : (port node : ℕ) → List Tree
address_facts port n =
    fact (codes "id") (bulk (id_of n)) ++ (fact (codes "port") (number (pos port)) ++ (fact (codes "ip") (bulk ip)
    ++ fact (codes "endpoint") (bulk ip)))

abbrev pub role_facts : List Tree
role_facts =
    fact (codes "role") (bulk (codes "master")) ++ (fact (codes "replication-offset") (number (pos 0))
    ++ fact (codes "health") (bulk (codes "online")))

abbrev pub node_tree : (port node : ℕ) → Tree
node_tree port n = array (trees_of (address_facts port n ++ role_facts))

-- a node is the only one of its shard
abbrev pub shard_tree : (base_port : ℕ) → List SlotRange → (node : ℕ) → Tree
shard_tree port ranges n =
    array (trees_of (fact (codes "slots") (array (trees_of (flat_map (bounds_of n) ranges)))
    ++ fact (codes "nodes") (array (trees_of (node_tree (port + n) n ∷ [])))))

abbrev pub shard_list : (base_port : ℕ) → List ℕ → (node : ℕ) → List Tree
shard_list port owners n = shard_tree port (owner_ranges owners) n ∷ []

unfoldable pub shards_reply : (base_port : ℕ) → Table → Reply
shards_reply port t = Array (trees_of (below (shard_list port t.owners) t.nodes))
