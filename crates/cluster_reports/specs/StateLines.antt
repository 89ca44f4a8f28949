-- What a node answers to CLUSTER INFO (its page). All slots have an owner, and each node is served as long as it
-- answers.
use Rattle.std.specs.Prelude.{ℕ, zero, suc, ◌+◌, ◌==◌, Bool, cond, List, ◌++◌, codes, decimal}
use Rattle.std.specs.List.{list_any}
use Rattle.slot_marks.specs.Tables.{Table}

abbrev pub owns : (owners : List ℕ) → (node : ℕ) → Bool
owns owners n = list_any (λ o. o == n) owners

-- how many of the first n nodes own a slot
abbrev pub owners_below : (owners : List ℕ) → (n : ℕ) → ℕ
owners_below owners zero = 0
owners_below owners (suc n) = owners_below owners n + cond (owns owners n) 1 0

unfoldable pub line : (name : List ℕ) → ℕ → List ℕ
line name n = name ++ (decimal n ++ codes "\r\n")

unfoldable pub first_lines : List ℕ
first_lines = codes "cluster_state:ok\r\ncluster_slots_assigned:16384\r\ncluster_slots_ok:16384\r\n"
    ++ codes "cluster_slots_pfail:0\r\ncluster_slots_fail:0\r\n"

unfoldable pub last_lines : List ℕ
last_lines = codes "cluster_stats_messages_sent:0\r\ncluster_stats_messages_received:0\r\n"
    ++ codes "total_cluster_links_buffer_limit_exceeded:0\r\n"

unfoldable pub count_lines : (nodes size : ℕ) → List ℕ
count_lines nodes size = line (codes "cluster_known_nodes:") nodes ++ line (codes "cluster_size:") size

-- a node's epoch is its number plus 1, so the greatest is the number of nodes
unfoldable pub epoch_lines : (nodes me : ℕ) → List ℕ
epoch_lines nodes me = line (codes "cluster_current_epoch:") nodes ++ line (codes "cluster_my_epoch:") (me + 1)

unfoldable pub state_text : Table → List ℕ
state_text t =
    first_lines ++ (count_lines t.nodes (owners_below t.owners t.nodes) ++ (epoch_lines t.nodes t.me ++ last_lines))
