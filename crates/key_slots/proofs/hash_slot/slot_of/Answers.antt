use Rattle.std.proofs.Common.{rules}
use Rattle.key_slots.specs.HashSlot.{slot_of}
use Rattle.key_slots.proofs.hash_slot.slot_of.Goals as goal

pub returns-clause-value : goal.returns-clause-value
unfolding slot_of
returns-clause-value c = search rules
