-- What settling makes of a world (the page of MIGRATE): a key that both nodes of a slot on its way hold goes from the
-- source to the target once more, in place of the target's stale copy.
use Rattle.std.specs.Prelude.{◌≡◌, ◌≢◌, ◌⊎◌, ℕ, ◌<◌, Bool, true, cond, ◌&&◌, ◌==◌, List, length, Option, None}
use Rattle.std.specs.Option.{is_some}
use Rattle.std.specs.FinMap.{get}
use Rattle.key_slots.specs.HashSlot.{slot_of}
use Rattle.typed_values.specs.declared.value.Value.{Value}
use Rattle.cluster_admin.specs.Keys.{Key}
use Rattle.store_commands.specs.Store.{Store}
use Rattle.cluster_world.specs.Openness.{IsOpenSlot, Open}
use Rattle.cluster_admin.specs.Phases.{Phase, Phases}
use Rattle.cluster_admin.specs.Phases as phase
use Rattle.cluster_world.specs.Worlds.{World, held, node_at}
use Rattle.cluster_world.specs.declared.event.Event.{Event}

-- what each node holds at one key
abbrev pub Holding : Type 0
Holding = ℕ → Option Value

-- both nodes hold it
abbrev pub is_doubled : (source target : ℕ) → Holding → Bool
is_doubled s t h = is_some (h s) && is_some (h t)

-- what node n holds at the key afterwards, whose slot is in this phase
abbrev pub settled_at : Phase → Holding → (node : ℕ) → Option Value
settled_at (phase.Migrating s t) h n =
    cond (is_doubled s t h) (cond (n == t) (h s) (cond (n == s) None (h n))) (h n)
settled_at other h n = h n

-- the second world is the first one, settled: owners and marks are the same
pub record IsSettled (w : World) (phases : Phases) (w' : World) : Type 0 where
  pub port : w'.base_port ≡ w.base_port
  pub count : length w'.nodes ≡ length w.nodes
  pub owners : (n : ℕ) → (node_at w' n).owners ≡ (node_at w n).owners
  pub migrating : (n : ℕ) → (node_at w' n).migrating ≡ (node_at w n).migrating
  pub importing : (n : ℕ) → (node_at w' n).importing ≡ (node_at w n).importing
  pub holds : (n : ℕ) (k : Key) → held w' n k ≡ settled_at (phases (slot_of k)) (λ m. held w m k) n

-- node n is the target, and has a copy of a key whose home is the source, which still has it
abbrev pub IsStaleAt : Phase → Holding → (home node : ℕ) → Type 0
IsStaleAt (phase.Migrating s t) h home n = (home ≡ s) × (n ≡ t) × (is_some (h s) ≡ true)
IsStaleAt other h home n = ⊥

-- each key lies at its home, which has what the store has, and elsewhere there are stale copies alone
abbrev pub IsSplitButStale : World → Phases → Store → Type 0
IsSplitButStale w phases store = (k : Key) → (home : ℕ) × (held w home k ≡ get store k)
    × ((n : ℕ) → n ≢ home → (held w n k ≡ None) ⊎ IsStaleAt (phases (slot_of k)) (λ m. held w m k) home n)

-- an open world, but for stale copies at targets of keys that their sources hold too
pub record IsOpenButStale (w : World) (phases : Phases) (store : Store) (before : List Event) : Type 0 where
  pub widths : (m : ℕ) → m < length w.nodes → length (node_at w m).owners ≡ 16384
  pub slots : (s : ℕ) → IsOpenSlot w before s (phases s)
  pub split : IsSplitButStale w phases store

-- once it is settled it is open, for the same phases and the same store
abbrev pub SettledIsOpen : Type 0
SettledIsOpen = (w w' : World) (phases : Phases) (store : Store) (before : List Event)
    → IsOpenButStale w phases store before → IsSettled w phases w' → Open w' phases store before
