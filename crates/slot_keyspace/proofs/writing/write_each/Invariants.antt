use Rattle.std.specs.Vec.Iter.{into_iter_items}
use Rattle.slot_keyspace.proofs.Undoing.{IsSoFar}
use Rattle.slot_keyspace.proofs.writing.write_each.Given as goal

abbrev pub invariant-loop-key : goal.invariant-loop-key
invariant-loop-key g l =
    IsSoFar (g.M.KeyMap.store l.initial.map) l.fn.writes.items (record { store = g.M.KeyMap.store l.map; undo = l.undo.items; leaving = l.leaving.items }) (into_iter_items l.key-iterator)
