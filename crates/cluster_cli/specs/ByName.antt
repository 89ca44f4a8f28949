-- What weights by name amount to.
use Rattle.std.specs.Prelude.{◌≡◌, ◌↔◌, ℕ, nat_eq, List, Some, map, unwrap_or}
use Rattle.std.specs.List.{AllZip, IsDistinct, range_with_len}
use Rattle.std.specs.Map.{lookup}
use Rattle.byte_texts.specs.Parts.{parts}
use Rattle.cluster_cli.specs.WeightsByName.{item_of, weights_of_some}

-- the weight that is given to the node, or 1
abbrev pub weight_of : (given : List (ℕ × ℕ)) → ℕ → ℕ
weight_of given n = unwrap_or (lookup (λ m. nat_eq m n) given) 1

-- Each part of the text gives a node its weight, no node comes twice, and each node, from n0 on, has what is given to
-- it.
pub record AreByName (nodes : ℕ) (text weights : List ℕ) : Type 0 where
  pub given : List (ℕ × ℕ)
  pub read : AllZip (λ item g. item_of nodes item ≡ Some g) (parts 44 text) given
  pub once : IsDistinct nat_eq (map (λ g. g.0) given)
  pub each : weights ≡ map (weight_of given) (range_with_len 0 nodes)

-- such weights are read, and no others
abbrev pub WeightsAreByName : Type 0
WeightsAreByName =
    (nodes : ℕ) (text weights : List ℕ) → (weights_of_some nodes text ≡ Some weights) ↔ AreByName nodes text weights
