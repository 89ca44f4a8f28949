-- The last part of an entry of CLUSTER SLOTS (its page).
use Rattle.std.specs.Prelude.{ℕ, ◌+◌, pos}
use Rattle.resp2_wire.specs.Tree.{Tree, number, bulk, array, none, more}
use Rattle.cluster_node.specs.Redirections.{ip, id_of}

-- a node's address and its id
abbrev pub owner_tree : (port node : ℕ) → Tree
owner_tree port n = array (more (bulk ip) (more (number (pos (port + n))) (more (bulk (id_of n)) none)))
