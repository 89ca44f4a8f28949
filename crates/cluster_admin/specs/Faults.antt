-- What is printed of refusals and of a port's faults, and a table's refusals among the administrator's. The texts are
-- this project's own.
use Rattle.std.specs.Prelude.{ℕ, List, codes}
use Rattle.slot_marks.specs.declared.fault.SlotFault.{SlotFault}
use Rattle.slot_marks.specs.declared.fault.SlotFault.TheVariants as slot
use Rattle.cluster_admin.specs.declared.admin.AdminFault.{AdminFault}
use Rattle.cluster_admin.specs.declared.admin.AdminFault.TheVariants as fault
use Rattle.cluster_admin.specs.declared.port_fault.PortFault.{PortFault}
use Rattle.cluster_admin.specs.declared.port_fault.PortFault.TheVariants.{Memory, Io, Wire}

abbrev pub of_slot : SlotFault → AdminFault
of_slot slot.NotOwner = fault.NotOwner
of_slot slot.AlreadyOwner = fault.AlreadyOwner
of_slot slot.UnknownNode = fault.UnknownNode
of_slot slot.KeysRemain = fault.KeysRemain
of_slot slot.SameNode = fault.SameNode

abbrev pub admin_text_of : AdminFault → List ℕ
admin_text_of fault.NotOwner = codes "the node does not own the slot"
admin_text_of fault.AlreadyOwner = codes "the node already owns the slot"
admin_text_of fault.UnknownNode = codes "unknown node"
admin_text_of fault.KeysRemain = codes "the node still holds keys of the slot"
admin_text_of fault.SameNode = codes "the node itself is named"
admin_text_of fault.Busy = codes "the target holds one of the keys"
admin_text_of fault.NotImporting = codes "the target has no importing mark of the slot"

-- what is printed of a fault
abbrev pub fault_text : PortFault → List ℕ
fault_text Memory = codes "out of memory"
fault_text Io = codes "the device failed"
fault_text Wire = codes "no reply came back"
