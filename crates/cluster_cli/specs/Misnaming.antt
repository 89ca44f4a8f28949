-- What is reported of words that name no nodes of the cluster, or give no weights: which word is wrong, and the option.
use Rattle.std.specs.Prelude.{ℕ, ◌-◌, Bool, cond, false, true, ◌&&◌, List, [], ◌∷◌, ◌++◌, Option, None, Some, codes}
use Rattle.std.specs.Prelude.{decimal, is_some, nat_eq, option_map, string_bytes, unwrap_or}
use Rattle.std.specs.List.{list_any}
use Rattle.byte_texts.specs.Decimals.{number_in}
use Rattle.byte_texts.specs.Parts.{parts}
use Rattle.command_words.specs.declared.usage.DrainWords.{DrainWords}
use Rattle.command_words.specs.declared.usage.RebalanceWords.{RebalanceWords}
use Rattle.command_words.specs.declared.usage.ReshardWords.{ReshardWords}
use Rattle.command_words.specs.declared.usage.Start.{Start}
use Rattle.command_words.specs.declared.usage.Start.TheVariants.{Cluster, Even, Survey}
use Rattle.cluster_cli.specs.NodeLists.{node_of}
use Rattle.cluster_cli.specs.WeightsByName.{item_of}

-- ---- nodes

-- the first of the words that is no node of a cluster of so many
abbrev pub first_unnamed : (nodes : ℕ) → List (List ℕ) → Option (List ℕ)
first_unnamed n [] = None
first_unnamed n (word ∷ words) = cond (is_some (node_of n word)) (first_unnamed n words) (Some word)

-- `error: --from: 'n9' is no node of the cluster, which has n0 to n2`
abbrev pub no_node_text : (option word : List ℕ) → (nodes : ℕ) → List ℕ
no_node_text option word n =
    (((codes "error: " ++ option) ++ codes ": '") ++ word)
    ++ (codes "' is no node of the cluster, which has n0 to n" ++ (decimal (n - 1) ++ codes "\n"))

-- of the nodes in the text, with commas between them
abbrev pub unnamed_in : (nodes : ℕ) → (text : List ℕ) → Option (List ℕ)
unnamed_in n text = first_unnamed n (parts 44 text)

-- the first source that is no node, or else the target
abbrev pub misnamed_nodes : (nodes : ℕ) → ReshardWords → List ℕ
misnamed_nodes n g =
    cond (is_some (node_of n (string_bytes g.to)))
    (no_node_text (codes "--from") (unwrap_or (unnamed_in n (string_bytes g.from)) []) n)
    (no_node_text (codes "--to") (string_bytes g.to) n)

-- the first target that is no node, where each node that is to be drained is one
abbrev pub misnamed_target : (nodes : ℕ) → (to : Option (List ℕ)) → (drained : Option (List ℕ)) → List ℕ
misnamed_target n to None = no_node_text (codes "--to") (unwrap_or (unnamed_in n (unwrap_or to [])) []) n
misnamed_target n to (Some word) = no_node_text (codes "--from") word n

abbrev pub misnamed_drain : (nodes : ℕ) → DrainWords → List ℕ
misnamed_drain n g = misnamed_target n (option_map string_bytes g.to) (unnamed_in n (string_bytes g.from))

-- ---- weights

-- the first that is no weight
abbrev pub first_no_weight : List (List ℕ) → Option (List ℕ)
first_no_weight [] = None
first_no_weight (word ∷ words) = cond (is_some (number_in 0 1000 word)) (first_no_weight words) (Some word)

-- `error: --weights: 'x' is no weight, a number from 0 to 1000`, or `error: --weights: n0 to n2 want one weight each`
abbrev pub unlisted_weights : (nodes : ℕ) → (wrong : Option (List ℕ)) → List ℕ
unlisted_weights n (Some word) =
    codes "error: --weights: '" ++ (word ++ codes "' is no weight, a number from 0 to 1000\n")
unlisted_weights n None = codes "error: --weights: n0 to n" ++ (decimal (n - 1) ++ codes " want one weight each\n")

-- the first that gives no node a weight
abbrev pub first_no_item : (nodes : ℕ) → List (List ℕ) → Option (List ℕ)
first_no_item n [] = None
first_no_item n (item ∷ items) = cond (is_some (item_of n item)) (first_no_item n items) (Some item)

-- `error: --weights: 'n9=2' is no weight of a node, as n1=0, from 0 to 1000`, or that a node has two
abbrev pub unnamed_weights : (wrong : Option (List ℕ)) → List ℕ
unnamed_weights (Some item) =
    codes "error: --weights: '" ++ (item ++ codes "' is no weight of a node, as n1=0, from 0 to 1000\n")
unnamed_weights None = codes "error: --weights: a node is given two weights\n"

-- where nodes may be given theirs by name
abbrev pub knows_names : Start → Bool
knows_names (Even s) = false
knows_names (Cluster g) = true
knows_names (Survey path) = true

abbrev pub has_name : (text : List ℕ) → Bool
has_name text = list_any (λ b. nat_eq b 61) text

abbrev pub is_by_name : Start → (text : List ℕ) → Bool
is_by_name start text = knows_names start && has_name text

abbrev pub misnamed_weights_in : (nodes : ℕ) → Start → (text : List ℕ) → List ℕ
misnamed_weights_in n start text =
    cond (is_by_name start text) (unnamed_weights (first_no_item n (parts 44 text)))
    (unlisted_weights n (first_no_weight (parts 44 text)))

abbrev pub misnamed_weights : (nodes : ℕ) → RebalanceWords → List ℕ
misnamed_weights n g = misnamed_weights_in n g.start (unwrap_or (option_map string_bytes g.weights) [])
