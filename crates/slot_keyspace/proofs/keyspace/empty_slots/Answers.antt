use Rattle.std.proofs.Common.{◌∙◌}
use Rattle.slot_keyspace.proofs.Union.{no_maps}
use Rattle.slot_keyspace.proofs.keyspace.empty_slots.Goals as goal

pub loop-init : goal.loop-init
loop-init c = c.in_ok-slots.ensures.items ∙ no_maps
