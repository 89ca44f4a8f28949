use Rattle.std.proofs.Common.{rules}
use Rattle.key_slots.specs.Owners.{start}
use Rattle.key_slots.proofs.start_row.first_slot.Goals as goal

pub returns : goal.returns
unfolding start
returns c = search rules
