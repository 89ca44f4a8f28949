-- Open worlds: a cluster where a plan may have stopped, or another administrator. Clean is the one without marks.
use Rattle.std.specs.Prelude.{◌≡◌, ◌≢◌, ℕ, ◌<◌, true, false, List, [], length, None}
use Rattle.std.specs.FinMap.{get}
use Rattle.key_slots.specs.HashSlot.{slot_of}
use Rattle.store_commands.specs.Store.{Key, Store, is_named}
use Rattle.slot_marks.specs.Verdicts.{is_cross, first_slot}
use Rattle.cluster_world.specs.Worlds.{World, node_at, owner, migrating, importing, held}
use Rattle.cluster_world.specs.Cleanness.{Clean}
use Rattle.cluster_world.specs.declared.event.Event.{Event}
use Rattle.cluster_world.specs.Honesty.{WasAsked}
use Rattle.cluster_admin.specs.Phases.{Phase, Phases, HasPhase, may_lie, closed_by}
use Rattle.cluster_admin.specs.Phases as phase

-- each key lies at one node at most, and all nodes together hold exactly the store
abbrev pub IsSplit : World → Store → Type 0
IsSplit w store = (k : Key) → (home : ℕ) × (held w home k ≡ get store k) × ((n : ℕ) → n ≢ home → held w n k ≡ None)

-- by the tables and marks of the world's nodes the slot is in this phase
abbrev pub HasPhaseAt : World → (slot : ℕ) → Phase → Type 0
HasPhaseAt w s phase =
    HasPhase (length w.nodes) (λ m. owner w m s) (λ m. migrating w m s) (λ m. importing w m s) phase

-- every slot is in its own
abbrev pub HavePhases : World → Phases → Type 0
HavePhases w phases = (s : ℕ) → HasPhaseAt w s (phases s)

-- What the ASKs that count say of a slot: none to the target of a slot that is only imported, and the source of one
-- that migrates holds no key that was asked for at the target
abbrev pub AskAllows : Phase → World → List Key → (node : ℕ) → Type 0
AskAllows (phase.Closed o) w ks n = Unit {0}
AskAllows (phase.Importing s t) w ks n = n ≢ t
AskAllows (phase.Migrating s t) w ks n = n ≡ t → (k : Key) → is_named k ks ≡ true → held w s k ≡ None
AskAllows (phase.TargetTold s t) w ks n = Unit {0}
AskAllows (phase.SourceTold s t left) w ks n = Unit {0}

-- the slot is in this phase, its keys lie where that allows, and so does what was asked before (the newest first)
pub record IsOpenSlot (w : World) (before : List Event) (s : ℕ) (phase : Phase) : Type 0 where
  pub has : HasPhaseAt w s phase
  pub place : (m : ℕ) (k : Key) → slot_of k ≡ s → may_lie phase m ≡ false → held w m k ≡ None
  pub asked : (ks : List Key) (m : ℕ) → WasAsked w.base_port before ks m → is_cross ks ≡ false → first_slot ks ≡ s
      → AskAllows phase w ks m

pub record Open (w : World) (phases : Phases) (store : Store) (before : List Event) : Type 0 where
  pub widths : (m : ℕ) → m < length w.nodes → length (node_at w m).owners ≡ 16384
  pub slots : (s : ℕ) → IsOpenSlot w before s (phases s)
  pub split : IsSplit w store

-- clean worlds are the open ones in which every slot is closed
abbrev pub CleanIsOpen : Type 0
CleanIsOpen = (w : World) (owners : List ℕ) (store : Store) → Clean w owners store → Open w (closed_by owners) store []

abbrev pub ClosedIsClean : Type 0
ClosedIsClean = (w : World) (owners : List ℕ) (store : Store) (before : List Event) → length owners ≡ 16384
    → Open w (closed_by owners) store before → Clean w owners store
