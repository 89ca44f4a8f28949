-- What each node has before and after.
use Rattle.std.specs.Prelude.{◌≡◌, ℕ, ◌<◌, ◌+◌, cond, ◌==◌, List, [], ◌∷◌, length, map}
use Rattle.std.specs.List.{All, range_with_len, sum_by}
use Rattle.plan_outlines.specs.declared.nodes.NodeChange.{NodeChange}

-- how many slots the node owns
abbrev pub held : List ℕ → (node : ℕ) → ℕ
held [] node = 0
held (owner ∷ owners) node = cond (owner == node) 1 0 + held owners node

abbrev pub change_of_node : (before after : List ℕ) → (node : ℕ) → NodeChange
change_of_node before after node =
    record { node = node; before = held before node; after = held after node }

-- of the nodes from 0 on
abbrev pub changes_of_nodes : (nodes : ℕ) (before after : List ℕ) → List NodeChange
changes_of_nodes nodes before after = map (change_of_node before after) (range_with_len 0 nodes)

abbrev pub NodesHoldAllSlots : Type 0
NodesHoldAllSlots =
    (nodes : ℕ) (before after : List ℕ) → All (λ n. n < nodes) before → All (λ n. n < nodes) after
    → (sum_by (λ c. c.before) (changes_of_nodes nodes before after) ≡ length before)
    × (sum_by (λ c. c.after) (changes_of_nodes nodes before after) ≡ length after)
