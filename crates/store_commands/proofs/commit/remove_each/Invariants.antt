use Rattle.std.proofs.Common.{◌≡◌, drop}
use Rattle.store_commands.specs.Effects.{without}
use Rattle.store_commands.proofs.commit.remove_each.Given as goal

abbrev pub invariant-loop-key : goal.invariant-loop-key
invariant-loop-key g l =
    without (g.E.Entries.entries l.entries) (drop l.key-index l.key-items) ≡ without (g.E.Entries.entries l.initial.entries) l.key-items
