-- A survey of the model, over which plans are verified, by what servers show.
use Rattle.std.specs.Prelude.{◌≡◌, ◌≢◌, ℕ, ◌<◌, ◌≤◌, ◌==◌, cond, IfSome, length, List, None, Option, slice_index}
use Rattle.std.specs.FinMap as finite
use Rattle.std.specs.List.{All}
use Rattle.slot_marks.specs.Setting.{with_owner}
use Rattle.slot_marks.specs.Tables.{Marks, Table}
use Rattle.cluster_views.specs.Rows.{with_coming, with_going}
use Rattle.cluster_admin.specs.Phases.{comes_in, goes_in, owner_in}
use Rattle.cluster_admin.specs.Surveys.{Survey, HasPhaseIn, IsOpenSurvey, owner_at, table_at}
use Rattle.server_phases.specs.ServerPhases.{IsOrdinary, IsPhaseAt, modelled}
use Rattle.server_phases.specs.declared.phase_fault.PhaseFault.{PhaseFault}
use Rattle.server_phases.specs.declared.phase_fault.PhaseFault.TheVariants as fault
use Rattle.server_phases.specs.declared.server_phase.ServerPhase.{ServerPhase}
use Rattle.server_phases.specs.declared.server_phase.ServerPhase.TheVariants as shown
use Rattle.server_phases.specs.declared.strangeness.Strangeness.{Strangeness}

-- the slots below this one are not strange
abbrev pub AreOrdinaryBelow : Survey → (slot : ℕ) → Type 0
AreOrdinaryBelow v i = (s : ℕ) → s < i → (p : ServerPhase) × IsOrdinary v s p

-- no slot is strange
abbrev pub AreOrdinary : Survey → Type 0
AreOrdinary v = AreOrdinaryBelow v 16384

-- the lowest strange slot, and why it is one
pub record IsStrangeSlot (v : Survey) (slot : ℕ) (k : Strangeness) : Type 0 where
  pub is : IsPhaseAt v slot (shown.Strange k)
  pub lower : AreOrdinaryBelow v slot

-- each slot of the one survey stands as the model has the phase that the other shows
pub record IsOpened (shows opened : Survey) : Type 0 where
  pub count : length opened.rows ≡ length shows.rows
  pub ordinary : AreOrdinary shows
  pub slots : (s : ℕ) → s < 16384 → (p : ServerPhase) → IsOrdinary shows s p → HasPhaseIn opened s (modelled p)
  pub is_open : IsOpenSurvey opened

-- the lowest strange slot; out of memory may stand for any answer
abbrev pub IsNotOpened : Survey → PhaseFault → Type 0
IsNotOpened v fault.Memory = Unit {0}
IsNotOpened v (fault.Strange s k) = IsStrangeSlot v s k

-- ---- one node's table

-- the marks that so many slots have in their phases, and no others
pub record AreMarksBelow (v : Survey) (mark : ServerPhase → Option ℕ) (i : ℕ) (m : Marks) : Type 0 where
  pub below : (s : ℕ) → s < i → (p : ServerPhase) → IsOrdinary v s p → finite.get m s ≡ mark p
  pub from : (s : ℕ) → i ≤ s → finite.get m s ≡ None

-- the owners that the node tells in the model, up to the slot i, and as the server tells them from there on
pub record AreOwnersBelow (v : Survey) (node i : ℕ) (owners : List ℕ) : Type 0 where
  pub below : (s : ℕ) → s < i → (p : ServerPhase) → IsOrdinary v s p → slice_index owners s ≡ owner_in (modelled p) node
  pub from : (s : ℕ) → i ≤ s → slice_index owners s ≡ owner_at v node s

-- the table of the node in the model, up to the slot i
pub record IsTableBelow (v : Survey) (node i : ℕ) (t : Table) : Type 0 where
  pub me : t.me ≡ node
  pub nodes : t.nodes ≡ length v.rows
  pub width : length t.owners ≡ 16384
  pub named : All (λ n. n < t.nodes) t.owners
  pub owners : AreOwnersBelow v node i t.owners
  pub going : AreMarksBelow v (λ p. goes_in (modelled p) node) i t.migrating
  pub coming : AreMarksBelow v (λ p. comes_in (modelled p) node) i t.importing

-- the tables of the first nodes in the model, up to the slot i
abbrev pub AreTablesBelow : Survey → (i : ℕ) → List Table → Type 0
AreTablesBelow v i ts = (n : ℕ) → n < length ts → IsTableBelow v n i (table_at ts n)

-- ---- one slot of it

-- the owner as the server tells it is that of the model, but for slots whose target was told
abbrev pub with_told : Table → (slot : ℕ) → ServerPhase → Table
with_told t s (shown.Told a b) = with_owner t s (cond (t.me == b) b a)
with_told t s p = t

-- the nodes of a slot whose target was told are among so many
abbrev pub MayBeAmong : (nodes : ℕ) → ServerPhase → Type 0
MayBeAmong n (shown.Told a b) = (a < n) × (b < n)
MayBeAmong n p = Unit {0}

-- both marks in the model are put
abbrev pub with_marks : Table → (slot : ℕ) → ServerPhase → Table
with_marks t s p = with_coming (with_going t s (goes_in (modelled p) t.me)) s (comes_in (modelled p) t.me)

-- the table may have this mark of a slot that goes
abbrev pub MayGo : Table → (slot target : ℕ) → Type 0
MayGo t s m = (slice_index t.owners s ≡ t.me) × (m < t.nodes) × (m ≢ t.me)

-- and this one of a slot that comes
abbrev pub MayCome : Table → (slot source : ℕ) → Type 0
MayCome t s m = (slice_index t.owners s ≢ t.me) × (m < t.nodes) × (m ≢ t.me)

-- the table may have both marks of the slot
pub record MayHaveMarks (t : Table) (slot : ℕ) (p : ServerPhase) : Type 0 where
  pub goes : IfSome (goes_in (modelled p) t.me) (MayGo t slot)
  pub comes : IfSome (comes_in (modelled p) t.me) (MayCome t slot)
