-- Which node owns each of the 16384 slots.
use Rattle.std.specs.Prelude.{◌≡◌, ℕ, ◌+◌, ◌*◌, ◌/◌, ◌<◌, ◌≤◌, List, length, refl, slice_index}
use Rattle.std.specs.Coded.{Coded, code_by, coded×, coded_list, coded_ℕ}
use Rattle.std.specs.List.{All}

-- the number of nodes, and the owner of each slot, from slot 0 on
pub record Owners : Type 0 where
  pub nodes : ℕ
  pub owners : List ℕ

abbrev pub owners_code : Coded Owners
owners_code =
    code_by (ℕ × List ℕ) (coded× coded_ℕ (coded_list coded_ℕ)) (λ o. (o.nodes, o.owners))
    (λ p. record { nodes = p.0; owners = p.1 }) (λ _. refl)

-- each slot has one owner, which is a node of the cluster, and there are 1 to 255 nodes
pub record IsTable (o : Owners) : Type 0 where
  pub width : length o.owners ≡ 16384
  pub some : 1 ≤ o.nodes
  pub most : o.nodes ≤ 255
  pub named : All (λ n. n < o.nodes) o.owners

-- where the slots of the node i begin, if `owning` nodes share all slots evenly: i of so many parts of 16384, rounded
-- to the nearest
unfoldable pub start : ℕ → ℕ → ℕ
start owning i = (16384 * i + owning / 2) / owning

-- each of the first `owning` nodes owns the slots from its start to the next one's
pub record IsEvenSplit (nodes owning : ℕ) (o : Owners) : Type 0 where
  pub among : o.nodes ≡ nodes
  pub width : length o.owners ≡ 16384
  pub shares : (i s : ℕ) → i < owning → start owning i ≤ s → s < start owning (i + 1) → slice_index o.owners s ≡ i
