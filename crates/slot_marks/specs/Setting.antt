-- CLUSTER SETSLOT on one table: the first refusal that applies, and otherwise the change (the page of CLUSTER SETSLOT).
use Rattle.std.specs.Prelude.{ℕ, cond, not, ◌&&◌, ◌==◌, nat_lt, [], ◌∷◌, Option, slice_index, slice_set}
use Rattle.std.specs.FinMap as finite
use Rattle.byte_texts.specs.Outcomes.{first_refusal}
use Rattle.slot_marks.specs.Tables.{Table}
use Rattle.slot_marks.specs.declared.fault.SlotFault.{SlotFault}
use Rattle.slot_marks.specs.declared.fault.SlotFault.TheVariants.{NotOwner, AlreadyOwner, UnknownNode, KeysRemain}
use Rattle.slot_marks.specs.declared.fault.SlotFault.TheVariants.{SameNode}

abbrev pub importing_fault : Table → (slot source : ℕ) → Option SlotFault
importing_fault t s m =
    first_refusal
    ((slice_index t.owners s == t.me, AlreadyOwner) ∷ (not (nat_lt m t.nodes), UnknownNode) ∷ (m == t.me, SameNode)
    ∷ [])

abbrev pub migrating_fault : Table → (slot target : ℕ) → Option SlotFault
migrating_fault t s m =
    first_refusal
    ((not (slice_index t.owners s == t.me), NotOwner) ∷ (not (nat_lt m t.nodes), UnknownNode)
    ∷ (m == t.me, SameNode) ∷ [])

-- `held` is how many keys of the slot the node holds
abbrev pub node_fault : Table → (slot owner held : ℕ) → Option SlotFault
node_fault t s m held =
    first_refusal
    ((not (nat_lt m t.nodes), UnknownNode)
    ∷ (slice_index t.owners s == t.me && not (m == t.me) && nat_lt 0 held, KeysRemain) ∷ [])

abbrev pub with_importing : Table → (slot source : ℕ) → Table
with_importing t s m = record t { importing = finite.insert t.importing s m }

abbrev pub with_migrating : Table → (slot target : ℕ) → Table
with_migrating t s m = record t { migrating = finite.insert t.migrating s m }

-- the node that gets the slot loses its importing mark, any other its migrating mark
abbrev pub with_owner : Table → (slot owner : ℕ) → Table
with_owner t s m = record t {
  owners = slice_set t.owners s m;
  migrating = cond (m == t.me) t.migrating (finite.remove t.migrating s);
  importing = cond (m == t.me) (finite.remove t.importing s) t.importing;
}

-- both marks of the slot go, and its owner stays
abbrev pub without_marks : Table → (slot : ℕ) → Table
without_marks t s = record t {
  migrating = finite.remove t.migrating s;
  importing = finite.remove t.importing s;
}
