use Rattle.std.proofs.Common.{◌≡◌}
use Rattle.slot_keyspace.specs.Union.{empty_maps}
use Rattle.slot_keyspace.proofs.keyspace.empty_slots.Given as goal

abbrev pub invariant-loop : goal.invariant-loop
invariant-loop l = l.slots.items ≡ empty_maps l.counter
