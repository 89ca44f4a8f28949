-- Weights for some of the nodes, each by its name: the others weigh 1.
use Rattle.std.specs.Prelude.{ℕ, cond, List, [], ◌∷◌, Option, Some, None, map, option_and_then, option_map, replicate}
use Rattle.std.specs.Prelude.{slice_index_or, slice_set, string_bytes, unwrap_or}
use Rattle.std.specs.Option.{is_some, option_or}
use Rattle.byte_texts.specs.Decimals.{number_in}
use Rattle.byte_texts.specs.Parts.{parts, split_once}
use Rattle.command_words.specs.declared.usage.RebalanceWords.{RebalanceWords}
use Rattle.command_words.specs.declared.usage.Start.{Start}
use Rattle.command_words.specs.declared.usage.Start.TheVariants.{Cluster, Even, Survey}
use Rattle.cluster_cli.specs.NodeLists.{node_of, weights_named}

-- a node of the cluster and its weight, by what stands before a `=` and after it
abbrev pub weighed : (nodes : ℕ) → List ℕ × List ℕ → Option (ℕ × ℕ)
weighed nodes sides =
    option_and_then (λ node. option_map (λ weight. (node, weight)) (number_in 0 1000 sides.1)) (node_of nodes sides.0)

-- `n1=0`
abbrev pub item_of : (nodes : ℕ) → List ℕ → Option (ℕ × ℕ)
item_of nodes item = option_and_then (weighed nodes) (split_once 61 item)

-- a weight for a node that has none yet
abbrev pub put : List (Option ℕ) → ℕ × ℕ → Option (List (Option ℕ))
put row item =
    cond (is_some (slice_index_or row item.0 None)) None (Some (slice_set row item.0 (Some item.1)))

-- The weights of the nodes in the row, and those that the items give to further nodes. None where one is no such item,
-- or gives a weight to a node that has one.
unfoldable pub row_of : (nodes : ℕ) → List (Option ℕ) → List (List ℕ) → Option (List (Option ℕ))
row_of nodes row [] = Some row
row_of nodes row (item ∷ items) =
    option_and_then (λ more. row_of nodes more items) (option_and_then (put row) (item_of nodes item))

-- one for each node: what the items give, with commas between them, and 1 for a node that none names
abbrev pub weights_of_some : (nodes : ℕ) → List ℕ → Option (List ℕ)
weights_of_some nodes text =
    option_map (map (λ w. unwrap_or w 1)) (row_of nodes (replicate nodes None) (parts 44 text))

-- ---- what a command asks for

-- by name at a cluster of servers or from a survey
abbrev pub weights_by_name : (nodes : ℕ) → Start → Option (List ℕ) → Option (List ℕ)
weights_by_name nodes (Even s) text = None
weights_by_name nodes (Cluster g) text = option_and_then (weights_of_some nodes) text
weights_by_name nodes (Survey path) text = option_and_then (weights_of_some nodes) text

-- one for each node as they are listed, or 1; or by name
abbrev pub weights_asked : (nodes : ℕ) → RebalanceWords → Option (List ℕ)
weights_asked nodes g =
    option_or (weights_named nodes g) (weights_by_name nodes g.start (option_map string_bytes g.weights))
