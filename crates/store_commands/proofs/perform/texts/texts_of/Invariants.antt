use Rattle.std.proofs.Common.{◌≡◌, ◌++◌, map, drop}
use Rattle.store_commands.specs.Act.{text_if_one}
use Rattle.store_commands.specs.Apply.{look_up}
use Rattle.store_commands.proofs.perform.texts.texts_of.Given as goal

abbrev pub invariant-loop-key : goal.invariant-loop-key
invariant-loop-key g l =
    l.replies.items ++ map text_if_one (look_up (g.E.Entries.entries l.entries) (drop l.key-index l.keys)) ≡ map text_if_one (look_up (g.E.Entries.entries l.entries) l.keys)
