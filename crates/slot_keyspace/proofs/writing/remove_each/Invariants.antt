use Rattle.std.proofs.Common.{◌≡◌, drop}
use Rattle.store_commands.specs.Effects.{without}
use Rattle.slot_keyspace.proofs.writing.remove_each.Given as goal

abbrev pub invariant-loop-key : goal.invariant-loop-key
invariant-loop-key g l = without (g.M.KeyMap.store l.map) (drop l.key-index l.keys) ≡ without (g.M.KeyMap.store l.initial.map) l.keys
