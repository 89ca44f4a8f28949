use Rattle.std.specs.Vec.Iter.{into_iter_items}
use Rattle.slot_keyspace.proofs.Undoing.{so_far-next}
use Rattle.slot_keyspace.proofs.writing.write_each.Goals as goal

pub loop-key-preserved : goal.loop-key-preserved
loop-key-preserved g c =
    so_far-next (g.M.KeyMap.store c.args.map.now) c.args.writes.items
    (record { store = g.M.KeyMap.store c.loop-key.map; undo = c.loop-key.undo.items; leaving = c.loop-key.leaving.items })
    (record { store = g.M.KeyMap.store c.write_one.new.map; undo = c.write_one.new.undo.items; leaving = c.write_one.new.leaving.items })
    c.in-Some.key c.in-Some.value (into_iter_items c.next.new.self) (into_iter_items c.loop-key.key-iterator)
    c.in-Some.ensures.steps.0 c.in_default.ensures.ok c.loop-key.invariant
