-- What is printed of refusals, and a table's refusals among the administrator's. The texts are this project's own.
use Rattle.std.specs.Prelude.{ℕ, List, codes}
use Rattle.slot_marks.specs.declared.fault.SlotFault.TheVariants as slot
use Rattle.cluster_node.specs.declared.admitting.AdmitFault.{AdmitFault}
use Rattle.cluster_node.specs.declared.admitting.AdmitFault.TheVariants as admitting

abbrev pub admit_text_of : AdmitFault → List ℕ
admit_text_of admitting.Busy = codes "the node holds one of the keys"
admit_text_of admitting.NotImporting = codes "the node has no importing mark of the slot"
admit_text_of admitting.Memory = codes "out of memory"
admit_text_of admitting.BadFrame = codes "the bytes are no frame of keys of the slot"
