-- What is printed of a refused SETSLOT. The texts are this project's own.
use Rattle.std.specs.Prelude.{ℕ, List, codes}
use Rattle.slot_marks.specs.declared.fault.SlotFault.{SlotFault}
use Rattle.slot_marks.specs.declared.fault.SlotFault.TheVariants.{NotOwner, AlreadyOwner, UnknownNode, KeysRemain}
use Rattle.slot_marks.specs.declared.fault.SlotFault.TheVariants.{SameNode}

abbrev pub text_of : SlotFault → List ℕ
text_of NotOwner = codes "the node does not own the slot"
text_of AlreadyOwner = codes "the node already owns the slot"
text_of UnknownNode = codes "unknown node"
text_of KeysRemain = codes "the node still holds keys of the slot"
text_of SameNode = codes "the node itself is named"
