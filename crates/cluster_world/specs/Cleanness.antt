-- Clean worlds: no slot is on its way, and each node holds what it owns.
use Rattle.std.specs.Prelude.{◌≡◌, ℕ, ◌<◌, ◌==◌, List, length, slice_index}
use Rattle.std.specs.FinMap as finite
use Rattle.key_slots.specs.HashSlot.{slot_of}
use Rattle.key_slots.specs.Owners.{Owners, IsTable}
use Rattle.store_commands.specs.Store.{Store}
use Rattle.cluster_node.specs.Nodes.{Node}
use Rattle.cluster_world.specs.Worlds.{World, node_at}
use Rattle.cluster_world.specs.WorldView.{new_world}

-- the node m: these owners, no mark, and exactly the entries of the store whose slots it owns
abbrev pub clean_node : List ℕ → Store → ℕ → Node
clean_node owners store m = record {
  held = finite.retain_keys store (λ k. slice_index owners (slot_of k) == m);
  owners = owners;
  migrating = finite.empty;
  importing = finite.empty;
}

-- every node is so, and every slot has an owner among them
pub record Clean (w : World) (owners : List ℕ) (store : Store) : Type 0 where
  pub width : length owners ≡ 16384
  pub owned : (s : ℕ) → slice_index owners s < length w.nodes
  pub nodes : (m : ℕ) → m < length w.nodes → node_at w m ≡ clean_node owners store m

-- the node has these owners and no mark
pub record HasTable (x : Node) (owners : List ℕ) : Type 0 where
  pub owners_are : x.owners ≡ owners
  pub not_migrating : x.migrating ≡ finite.empty
  pub not_importing : x.importing ≡ finite.empty

-- there are as many nodes as the table says, and each is so, whatever it holds
pub record IsUnmarked (w : World) (o : Owners) : Type 0 where
  pub count : length w.nodes ≡ o.nodes
  pub nodes : (m : ℕ) → m < length w.nodes → HasTable (node_at w m) o.owners

-- a cluster that was just opened is clean for its table, with the empty store
abbrev pub OpenedIsClean : Type 0
OpenedIsClean = (port : ℕ) (o : Owners) → IsTable o → Clean (new_world port o.nodes o.owners) o.owners finite.empty
