-- The nodes that are drained, and those that take their slots.
use Rattle.std.specs.Prelude.{◌==◌, ℕ, zero, suc, Bool, cond, List, [], ◌∷◌, ◌++◌, Option, Some, None, option_and_then}
use Rattle.std.specs.Prelude.{option_map, string_bytes}
use Rattle.std.specs.List.{list_any}
use Rattle.byte_texts.specs.Parts.{parts}
use Rattle.command_words.specs.declared.usage.DrainWords.{DrainWords}
use Rattle.cluster_cli.specs.NodeLists.{all_read, node_of}

-- one of the nodes
abbrev pub is_one : (nodes : List ℕ) → (node : ℕ) → Bool
is_one nodes k = list_any (λ n. k == n) nodes

-- every node below this number that is none of the sources
unfoldable pub all_but : ℕ → (sources : List ℕ) → List ℕ
all_but zero sources = []
all_but (suc k) sources = all_but k sources ++ cond (is_one sources k) [] (k ∷ [])

-- nodes with commas between them
abbrev pub nodes_listed : (nodes : ℕ) → List ℕ → Option (List ℕ)
nodes_listed nodes text = all_read (node_of nodes) (parts 44 text)

-- the nodes that are given, or all but the sources
abbrev pub targets_of : (nodes : ℕ) → (sources : List ℕ) → Option (List ℕ) → Option (List ℕ)
targets_of nodes sources None = Some (all_but nodes sources)
targets_of nodes sources (Some text) = nodes_listed nodes text

-- the sources and the targets, where each is a node of the cluster
abbrev pub drain_named : (nodes : ℕ) → DrainWords → Option (List ℕ × List ℕ)
drain_named nodes g = option_and_then (λ sources.
    option_map (λ targets. (sources, targets)) (targets_of nodes sources (option_map string_bytes g.to)))
    (nodes_listed nodes (string_bytes g.from))
