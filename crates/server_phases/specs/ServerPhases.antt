-- The phases in which servers show a slot (the page of CLUSTER SETSLOT, "Redis Cluster live resharding explained"). A
-- server hears of a slot's new owner from others, so a source may tell the target while its migrating mark stands.
use Rattle.std.specs.Prelude.{◌≡◌, ◌≢◌, ◌⊎◌, ℕ, ◌<◌, ◌≤◌, length, None, Some}
use Rattle.cluster_admin.specs.Phases.{Phase, AreTwo}
use Rattle.cluster_admin.specs.Phases as phase
use Rattle.cluster_admin.specs.Surveys.{Survey, HasPhaseIn, IsSaid, importing_at, migrating_at, owner_at}
use Rattle.server_phases.specs.Strange.{strangeness}
use Rattle.server_phases.specs.declared.server_phase.ServerPhase.{ServerPhase}
use Rattle.server_phases.specs.declared.server_phase.ServerPhase.TheVariants as shown

-- ---- a target that was told

-- what one node tells and has, where the slot goes from the source to the target, which was told
pub record IsToldAt (v : Survey) (slot source target node : ℕ) : Type 0 where
  pub owner : (owner_at v node slot ≡ source) ⊎ (owner_at v node slot ≡ target)
  pub going : node ≢ source → migrating_at v node slot ≡ None
  pub coming : importing_at v node slot ≡ None

-- the source knows the target and has no mark, and some node still tells the source
pub record AreOthersLeft (v : Survey) (slot source target : ℕ) : Type 0 where
  pub unmarked : migrating_at v source slot ≡ None
  pub known : owner_at v source slot ≡ target
  pub said : IsSaid v slot source

-- The target tells that the slot is its own, the others tell the source or the target, and somebody is still to be
-- told: the source, which has its mark, or others alone
pub record IsTold (v : Survey) (slot source target : ℕ) : Type 0 where
  pub two : AreTwo (length v.rows) source target
  pub taken : owner_at v target slot ≡ target
  pub each : (n : ℕ) → n < length v.rows → IsToldAt v slot source target n
  pub left : (migrating_at v source slot ≡ Some target) ⊎ AreOthersLeft v slot source target

-- ---- phases

-- The phase of the model that stands for it. Whoever was told may be told again, so a slot whose target was told stands
-- as one of which nobody else knows yet.
abbrev pub modelled : ServerPhase → Phase
modelled (shown.Closed o) = phase.Closed o
modelled (shown.Importing s t) = phase.Importing s t
modelled (shown.Migrating s t) = phase.Migrating s t
modelled (shown.Told s t) = phase.TargetTold s t
modelled (shown.Strange k) = phase.Closed 0

-- the slot is in this phase, in which it can be closed
abbrev pub IsOrdinary : Survey → (slot : ℕ) → ServerPhase → Type 0
IsOrdinary v s (shown.Closed o) = HasPhaseIn v s (phase.Closed o)
IsOrdinary v s (shown.Importing a b) = HasPhaseIn v s (phase.Importing a b)
IsOrdinary v s (shown.Migrating a b) = HasPhaseIn v s (phase.Migrating a b)
IsOrdinary v s (shown.Told a b) = IsTold v s a b
IsOrdinary v s (shown.Strange k) = ⊥

-- the slot can't be closed
abbrev pub IsStrange : Survey → (slot : ℕ) → Type 0
IsStrange v s = (p : ServerPhase) → IsOrdinary v s p → ⊥

-- a slot is strange exactly where it is in no other phase
abbrev pub IsPhaseAt : Survey → (slot : ℕ) → ServerPhase → Type 0
IsPhaseAt v s (shown.Strange k) = IsStrange v s × (k ≡ strangeness v s)
IsPhaseAt v s p = IsOrdinary v s p

-- the phases of all slots
abbrev pub ServerPhases : Type 0
ServerPhases = ℕ → ServerPhase

abbrev pub ShowsPhases : Survey → ServerPhases → Type 0
ShowsPhases v phases = (s : ℕ) → s < 16384 → IsPhaseAt v s (phases s)

-- all nodes tell one owner, and no mark stands
abbrev pub IsClosedAt : Survey → (slot : ℕ) → Type 0
IsClosedAt v s = (o : ℕ) × IsOrdinary v s (shown.Closed o)

-- some mark stands, or nodes do not agree on the owner
abbrev pub IsOpenAt : Survey → (slot : ℕ) → Type 0
IsOpenAt v s = IsClosedAt v s → ⊥

-- the slots from the one to below the other are closed
abbrev pub AreClosedBetween : Survey → (from to : ℕ) → Type 0
AreClosedBetween v from to = (s : ℕ) → from ≤ s → s < to → IsClosedAt v s

-- the slot is the lowest open one that is not below this one
pub record IsNextOpen (v : Survey) (least slot : ℕ) : Type 0 where
  pub from : least ≤ slot
  pub is_open : IsOpenAt v slot
  pub lower : AreClosedBetween v least slot
