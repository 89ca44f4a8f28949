use Rattle.std.proofs.Common.{◌≡◌, ◌≤◌, ◌+◌, length, drop}
use Rattle.store_commands.specs.Act.{present}
use Rattle.store_commands.specs.Apply.{look_up}
use Rattle.store_commands.proofs.perform.keys.count_there.Given as goal

abbrev pub invariant-loop-key : goal.invariant-loop-key
invariant-loop-key g l =
    (l.there + length (present (drop l.key-index l.key-items) (look_up (g.E.Entries.entries l.entries) (drop l.key-index l.key-items)))
    ≡ length (present l.key-items (look_up (g.E.Entries.entries l.entries) l.key-items)))
    × (l.there ≤ l.key-index)
