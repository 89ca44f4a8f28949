use Rattle.std.proofs.Common.{◌≡◌, ◌≤◌, length}
use Rattle.slot_keyspace.proofs.Listing.{first_of}
use Rattle.slot_keyspace.proofs.slot_keys.SlotKeys.first_keys.Given as goal

abbrev pub invariant-loop-key : goal.invariant-loop-key
invariant-loop-key l = record {
  within : length l.found ≤ l.count;
  listed : first_of l.count l.found l.key-iterator ≡ first_of l.count l.initial.found l.initial.key-iterator;
}
