use Rattle.std.proofs.Common.{◌≡◌, ◌≤◌, length, drop, fold}
use Rattle.store_commands.specs.Act.{each_once, present}
use Rattle.store_commands.specs.Apply.{look_up}
use Rattle.typed_values.specs.Members.{members_of, with_member}
use Rattle.store_commands.proofs.perform.keys.count_different.Given as goal

abbrev pub invariant-loop-key : goal.invariant-loop-key
invariant-loop-key g l =
    (fold with_member (members_of l.seen.keys) (present (drop l.key-index l.key-items) (look_up (g.E.Entries.entries l.entries) (drop l.key-index l.key-items)))
    ≡ each_once (present l.key-items (look_up (g.E.Entries.entries l.entries) l.key-items)))
    × (length l.seen.keys ≤ l.key-index)
