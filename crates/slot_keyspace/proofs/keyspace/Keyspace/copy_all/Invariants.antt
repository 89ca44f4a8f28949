use Rattle.std.proofs.Common.{◌≡◌, map, take}
use Rattle.slot_keyspace.proofs.keyspace.Keyspace.copy_all.Given as goal

abbrev pub invariant-loop-item : goal.invariant-loop-item
invariant-loop-item l = l.copies.items ≡ map (λ e. (e.0.now, e.1.now)) (take l.item-index l.item-items)
