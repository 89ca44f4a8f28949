-- Lists in words: nodes and weights, with commas between them.
use Rattle.std.specs.Prelude.{◌==◌, ℕ, cond, List, [], ◌∷◌, ◌++◌, Option, Some, None, codes, length, nat_lt}
use Rattle.std.specs.Prelude.{option_and_then, option_map, replicate, string_bytes, suc, zero}
use Rattle.std.specs.Str.{bytes_eq}
use Rattle.byte_texts.specs.Decimals.{number_in}
use Rattle.byte_texts.specs.Parts.{parts}
use Rattle.key_slots.specs.Numbers.{node_among}
use Rattle.command_words.specs.declared.usage.RebalanceWords.{RebalanceWords}
use Rattle.command_words.specs.declared.usage.ReshardWords.{ReshardWords}

-- each part is read, where each can be
unfoldable pub all_read : (List ℕ → Option ℕ) → List (List ℕ) → Option (List ℕ)
all_read read [] = Some []
all_read read (p ∷ ps) = option_and_then (λ x. option_map (λ xs. x ∷ xs) (all_read read ps)) (read p)

-- ---- nodes

abbrev pub below : ℕ → ℕ → Option ℕ
below nodes k = cond (nat_lt k nodes) (Some k) None

-- a node of a cluster of so many
abbrev pub node_of : (nodes : ℕ) → List ℕ → Option ℕ
node_of nodes word = option_and_then (below nodes) (node_among 255 word)

-- every node below this number but the target
unfoldable pub others : ℕ → (target : ℕ) → List ℕ
others zero target = []
others (suc k) target = others k target ++ cond (k == target) [] (k ∷ [])

-- `all`, or nodes with commas between them
abbrev pub sources_of : (nodes target : ℕ) → List ℕ → Option (List ℕ)
sources_of nodes target text =
    cond (bytes_eq text (codes "all")) (Some (others nodes target)) (all_read (node_of nodes) (parts 44 text))

-- ---- weights

-- one for each node
abbrev pub one_each : ℕ → List ℕ → Option (List ℕ)
one_each nodes weights = cond (length weights == nodes) (Some weights) None

abbrev pub weights_of : (nodes : ℕ) → List ℕ → Option (List ℕ)
weights_of nodes text = option_and_then (one_each nodes) (all_read (number_in 0 1000) (parts 44 text))

-- ---- what the words of a command name

-- the sources and the target, where each is a node of the cluster
abbrev pub nodes_named : (nodes : ℕ) → ReshardWords → Option (List ℕ × ℕ)
nodes_named nodes g = option_and_then (λ target.
    option_map (λ sources. (sources, target)) (sources_of nodes target (string_bytes g.from)))
    (node_of nodes (string_bytes g.to))

-- one weight for each node; each is 1 where none is given
abbrev pub weights_or_ones : (nodes : ℕ) → Option (List ℕ) → Option (List ℕ)
weights_or_ones nodes None = Some (replicate nodes 1)
weights_or_ones nodes (Some text) = weights_of nodes text

abbrev pub weights_named : (nodes : ℕ) → RebalanceWords → Option (List ℕ)
weights_named nodes g = weights_or_ones nodes (option_map string_bytes g.weights)
