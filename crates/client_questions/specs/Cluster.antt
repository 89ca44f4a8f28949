-- CLUSTER INFO, NODES, SHARDS, MYID and COUNTKEYSINSLOT (the pages of these commands).
use Rattle.std.specs.Prelude.{ℕ, min, cond, List, [], ◌∷◌, length, Option, Some, None, option_map, ℤ, pos, codes}
use Rattle.resp2_wire.specs.Stream.{Words}
use Rattle.resp2_wire.specs.declared.reply.Reply.{Reply}
use Rattle.resp2_wire.specs.declared.reply.Reply.TheVariants.{Error, Number, Bulk}
use Rattle.typed_values.specs.Numbers.{number}
use Rattle.key_slots.specs.Numbers.{slot_in}
use Rattle.slot_keyspace.specs.Listing.{keys_of}
use Rattle.cluster_node.specs.NodeView.{NodeView}
use Rattle.cluster_node.specs.Nodes.{table_of}
use Rattle.cluster_node.specs.Redirections.{id_of}
use Rattle.cluster_reports.specs.NodeLines.{nodes_text}
use Rattle.cluster_reports.specs.StateLines.{state_text}
use Rattle.cluster_reports.specs.Shards.{shards_reply}
use Rattle.client_questions.specs.Refusals.{is_word, wrong_count, not_an_integer, unknown_subcommand}
use Rattle.client_questions.specs.declared.cluster.NodeQuestion.{NodeQuestion}
use Rattle.client_questions.specs.declared.cluster.NodeQuestion.TheVariants.{State, Nodes, Shards, MyId, Count}

-- the question, where nothing stands after it
abbrev pub alone : NodeQuestion → Words → Option NodeQuestion
alone q [] = Some q
alone q (w ∷ ws) = None

abbrev pub counted : Words → Option NodeQuestion
counted [] = None
counted (slot ∷ []) = option_map (λ s. Count s) (slot_in slot)
counted (a ∷ b ∷ ws) = None

-- what the words after CLUSTER ask of the node
unfoldable pub asked_of_node : Words → Option NodeQuestion
asked_of_node [] = None
asked_of_node (word ∷ ws) =
    cond (is_word word (codes "info")) (alone State ws)
    (cond (is_word word (codes "nodes")) (alone Nodes ws)
    (cond (is_word word (codes "shards")) (alone Shards ws)
    (cond (is_word word (codes "myid")) (alone MyId ws)
    (cond (is_word word (codes "countkeysinslot")) (counted ws) None))))

-- the most that a number of a reply can be stands for all above it
abbrev pub counted_keys : ℕ → Reply
counted_keys n = Number (pos (min n 9223372036854775807))

abbrev pub not_a_slot : Option ℤ → Reply
not_a_slot None = not_an_integer
not_a_slot (Some z) = Error (codes "ERR Invalid slot")

unfoldable pub not_one_slot : Reply
not_one_slot = wrong_count (codes "cluster|countkeysinslot")

abbrev pub count_refusal : Words → Reply
count_refusal [] = not_one_slot
count_refusal (slot ∷ []) = not_a_slot (number slot)
count_refusal (a ∷ b ∷ ws) = not_one_slot

-- the reply to words after CLUSTER that ask the node for nothing
unfoldable pub cluster_refusal : Words → Reply
cluster_refusal [] = wrong_count (codes "cluster")
cluster_refusal (word ∷ ws) =
    cond (is_word word (codes "info")) (wrong_count (codes "cluster|info"))
    (cond (is_word word (codes "nodes")) (wrong_count (codes "cluster|nodes"))
    (cond (is_word word (codes "shards")) (wrong_count (codes "cluster|shards"))
    (cond (is_word word (codes "myid")) (wrong_count (codes "cluster|myid"))
    (cond (is_word word (codes "countkeysinslot")) (count_refusal ws) (unknown_subcommand (codes "CLUSTER") word)))))

abbrev pub refusal_unless : Option NodeQuestion → Words → Option Reply
refusal_unless None ws = Some (cluster_refusal ws)
refusal_unless (Some q) ws = None

-- what a node answers: out of its own table, or how many keys of the slot it holds
abbrev pub node_reply : (port : ℕ) → NodeView → NodeQuestion → Reply
node_reply port n State = Bulk (state_text (table_of n.me n.nodes n.node))
node_reply port n Nodes = Bulk (nodes_text port (table_of n.me n.nodes n.node))
node_reply port n Shards = shards_reply port (table_of n.me n.nodes n.node)
node_reply port n MyId = Bulk (id_of n.me)
node_reply port n (Count slot) = counted_keys (length (keys_of n.node.held slot))
