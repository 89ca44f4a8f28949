-- What is left of a `move` line.
use Rattle.std.specs.Prelude.{Option, Some, None, ℕ, ◌+◌, ◌-◌, ◌≤◌, not, ◌&&◌, ◌==◌}
use Rattle.std.specs.Prelude.{List, [], ◌∷◌, ◌++◌, map, filter}
use Rattle.plan_language.specs.declared.plan_command.PlanCommand.{PlanCommand}
use Rattle.plan_language.specs.declared.plan_command.PlanCommand.TheVariants as command
use Rattle.plan_language.specs.declared.commands.MoveStep.{MoveStep}
use Rattle.plan_language.specs.declared.commands.MoveStep.TheVariants.{Importing, Migrating, Drain}
use Rattle.plan_language.specs.declared.commands.MoveStep.TheVariants.{TargetNode, SourceNode, OtherNode}
use Rattle.plan_language.specs.declared.commands.MoveCommands.{MoveCommands}
use Rattle.plan_language.specs.Moves.{move_of}
use Rattle.plan_language.specs.Lines.{numbers_from, others, moves}

-- the nodes but the two, from this number on
unfoldable pub others_from : (n source target from : ℕ) → List ℕ
others_from n s t from = filter (λ m. not (m == s) && not (m == t)) (numbers_from from (n - from))

-- the target is told of to each of the nodes
abbrev pub told : (s target : ℕ) → List ℕ → List PlanCommand
told s t nodes = map (λ m. command.SetNode s t m) nodes

-- the commands of one slot that are left
abbrev pub slot_left : (n s source target batch : ℕ) → MoveStep → List PlanCommand
slot_left n s o t b Importing = move_of s o t b (others n o t)
slot_left n s o t b Migrating =
    command.Migrating s t o ∷ command.Drain s o t b ∷ told s t (t ∷ o ∷ others n o t)
slot_left n s o t b Drain = command.Drain s o t b ∷ told s t (t ∷ o ∷ others n o t)
slot_left n s o t b TargetNode = told s t (t ∷ o ∷ others n o t)
slot_left n s o t b SourceNode = told s t (o ∷ others n o t)
slot_left n s o t b (OtherNode from) = told s t (others_from n o t from)

-- and then those of the slots after it
abbrev pub move_left : ℕ → MoveCommands → List PlanCommand
move_left n w =
    slot_left n w.slot w.source w.target w.batch w.step
    ++ moves n (w.slot + 1) (w.last - w.slot) w.source w.target w.batch

abbrev pub importing_of : MoveCommands → PlanCommand
importing_of w = command.Importing w.slot w.source w.target

abbrev pub IsMoveLeft : MoveCommands → Type 0
IsMoveLeft w = w.slot ≤ w.last

abbrev pub commands_left : ℕ → Option MoveCommands → List PlanCommand
commands_left n None = []
commands_left n (Some w) = move_left n w

abbrev pub AreCommands : Option MoveCommands → Type 0
AreCommands None = Unit {0}
AreCommands (Some w) = IsMoveLeft w
