use Rattle.std.proofs.Common.{subst, sym, ap, ◌∙◌}
use Rattle.slot_keyspace.specs.Union.{AreBySlot, union_of}
use Rattle.slot_keyspace.proofs.Union.{by_slot-empty, union-empty}
use Rattle.slot_keyspace.proofs.keyspace.Keyspace.new.Goals as goal

pub invariant_of-result : goal.invariant_of-result
invariant_of-result c = subst AreBySlot (sym c.in_ok-slots.ensures) by_slot-empty

pub returns : goal.returns
returns c = ap union_of c.in_ok-slots.ensures ∙ union-empty 16384
