-- Runs in which a node that a client was told to ask imports the slot no more.
use Rattle.std.specs.Prelude.{◌≡◌, ℕ, List, [], ◌∷◌}
use Rattle.std.specs.List.{AllByRecursion}
use Rattle.client_commands.specs.Commands.{keys}
use Rattle.slot_marks.specs.Verdicts.{first_slot}
use Rattle.slot_marks.specs.declared.verdict.Verdict.TheVariants.{Ask}
use Rattle.cluster_world.specs.Worlds.{World, verdict}
use Rattle.cluster_world.specs.Steps.{after}
use Rattle.cluster_world.specs.declared.event.Event.{Event}
use Rattle.cluster_world.specs.declared.event.Event.TheVariants.{Client, Look, Admin}
use Rattle.cluster_world.specs.Honesty.{IsNoImport}

-- where a command was told to ask at a node, that node imports the slot by no later event
abbrev pub NoneReimported : World → List Event → Type 0
NoneReimported w [] = Unit {0}
NoneReimported w (Client seat x asking c r ∷ es) =
    ((m : ℕ) → verdict w x asking (keys c) ≡ Ask m → AllByRecursion (IsNoImport (first_slot (keys c)) m) es)
    × NoneReimported (after w (Client seat x asking c r)) es
NoneReimported w (Look seat x r ∷ es) = NoneReimported w es
NoneReimported w (Admin x c r ∷ es) = NoneReimported (after w (Admin x c r)) es
