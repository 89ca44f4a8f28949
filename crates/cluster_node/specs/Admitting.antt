-- A frame at the target of a MIGRATE: what it brings, and the first refusal that applies (the page of MIGRATE).
use Rattle.std.specs.Prelude.{Bool, false, not, ◌==◌, ◌≡◌, ℕ, List, [], ◌∷◌, Option, Some, None, is_none, Result, Ok}
use Rattle.std.specs.Prelude.{Err}
use Rattle.std.specs.List.{list_any, list_all}
use Rattle.std.specs.FinMap as finite
use Rattle.key_slots.specs.HashSlot.{slot_of}
use Rattle.migrate_frames.specs.Batches.{Entry}
use Rattle.migrate_frames.specs.Reading.{frame_at}
use Rattle.migrate_frames.specs.declared.fault.FrameFault.{FrameFault}
use Rattle.migrate_frames.specs.declared.fault.FrameFault.TheVariants as frame
use Rattle.byte_texts.specs.Outcomes.{first_refusal}
use Rattle.cluster_node.specs.Nodes.{Node, is_present}
use Rattle.cluster_node.specs.declared.admitting.AdmitFault.{AdmitFault}
use Rattle.cluster_node.specs.declared.admitting.AdmitFault.TheVariants as fault
use Rattle.cluster_admin.specs.declared.admin.AdminFault.{AdminFault}
use Rattle.cluster_admin.specs.declared.admin.AdminFault.TheVariants as admin

-- why a frame was not read, as the target tells it
abbrev pub of_frame : FrameFault → AdmitFault
of_frame frame.Memory = fault.Memory
of_frame other = fault.BadFrame

-- what was read of the bytes
abbrev pub entries_in : Result (List Entry) FrameFault → List Entry
entries_in (Ok es) = es
entries_in (Err f) = []

-- the entries that the bytes bring
abbrev pub frame_entries : List ℕ → List Entry
frame_entries bytes = entries_in (frame_at bytes)

-- each key is of the slot
abbrev pub are_of_slot : ℕ → List Entry → Bool
are_of_slot s es = list_all (λ e. slot_of e.0 == s) es

abbrev pub is_batch_of_slot : ℕ → Result (List Entry) FrameFault → Bool
is_batch_of_slot s (Ok es) = are_of_slot s es
is_batch_of_slot s (Err f) = false

-- the bytes are the frame of a batch, and each key of it is of the slot
abbrev pub is_frame_of_slot : ℕ → List ℕ → Bool
is_frame_of_slot s bytes = is_batch_of_slot s (frame_at bytes)

-- the node holds a key of the batch
abbrev pub holds_any : Node → List Entry → Bool
holds_any x batch = list_any (λ e. is_present x e.0) batch

-- the slot is not on its way to the node, the bytes are no frame of its keys, or the node holds one of the keys
abbrev pub admit_fault : Node → ℕ → List ℕ → Option AdmitFault
admit_fault x s bytes = first_refusal (
    (is_none (finite.get x.importing s), fault.NotImporting)
    ∷ (not (is_frame_of_slot s bytes), fault.BadFrame)
    ∷ (holds_any x (frame_entries bytes), fault.Busy)
    ∷ [])

-- A fault that is told is that refusal. Out of memory can come in its place where the frame is read at all.
abbrev pub IsTold : Option AdmitFault → AdmitFault → Type 0
IsTold f fault.Memory = f ≡ Some fault.NotImporting → ⊥
IsTold f fault.Busy = f ≡ Some fault.Busy
IsTold f fault.NotImporting = f ≡ Some fault.NotImporting
IsTold f fault.BadFrame = f ≡ Some fault.BadFrame

abbrev pub AdmitsBy : Option AdmitFault → Result (Unit {0}) AdmitFault → Type 0
AdmitsBy f (Ok x) = f ≡ None
AdmitsBy f (Err e) = IsTold f e

-- The target's refusal as the source tells it to the administrator. A frame that the source made is not bad, and out of
-- memory is no refusal, so that neither is told.
abbrev pub told_as : AdmitFault → AdminFault
told_as fault.NotImporting = admin.NotImporting
told_as other = admin.Busy
