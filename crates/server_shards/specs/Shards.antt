-- The nodes of shards in an answer to CLUSTER SHARDS (the page of that command): an array of shards, each an array of
-- names and values, of which one is the array of its nodes, each an array of names and values, of which one is its ID.
use Rattle.std.specs.Prelude.{ℕ, Bool, true, false, ◌&&◌, ◌||◌, List}
use Rattle.byte_texts.specs.Words.{is}
use Rattle.resp2_wire.specs.Tree.{Tree, simple, error, number, bulk, null, null_array, array, Trees, none, more}

-- one of the replies is so
abbrev pub any_of : (Tree → Bool) → Trees → Bool
any_of p none = false
any_of p (more t ts) = p t || any_of p ts

-- the reply is an array, and one of its replies is so
abbrev pub any_in : (Tree → Bool) → Tree → Bool
any_in p (array ts) = any_of p ts
any_in p (simple t) = false
any_in p (error t) = false
any_in p (number z) = false
any_in p (bulk t) = false
any_in p null = false
any_in p null_array = false

abbrev pub is_text : (id : List ℕ) → Tree → Bool
is_text id (bulk t) = is id t
is_text id (array ts) = false
is_text id (simple t) = false
is_text id (error t) = false
is_text id (number z) = false
is_text id null = false
is_text id null_array = false

-- the node has this ID
abbrev pub names_node : (id : List ℕ) → Tree → Bool
names_node id t = any_in (is_text id) t

-- one of these nodes has it
abbrev pub lists_node : (id : List ℕ) → Tree → Bool
lists_node id t = any_in (names_node id) t

-- the shard has the node
abbrev pub has_node : (id : List ℕ) → Tree → Bool
has_node id t = any_in (lists_node id) t

-- the shard has both nodes
abbrev pub is_with : (one other : List ℕ) → Tree → Bool
is_with one other t = has_node one t && has_node other t
