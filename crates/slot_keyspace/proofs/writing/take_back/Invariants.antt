use Rattle.std.proofs.Common.{◌≡◌, vec_len}
use Rattle.slot_keyspace.specs.Writing.{undone, CanBeUndone}
use Rattle.slot_keyspace.proofs.writing.take_back.Given as goal

abbrev pub invariant-loop-key : goal.invariant-loop-key
invariant-loop-key g l = record {
  same : undone l.undo.items (g.M.KeyMap.store l.map) ≡ undone l.initial.undo.items (g.M.KeyMap.store l.initial.map);
  can : CanBeUndone l.undo.items (g.M.KeyMap.store l.map);
}

abbrev pub decreases-loop-key : goal.decreases-loop-key
decreases-loop-key g l = vec_len l.undo
