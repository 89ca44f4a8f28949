use Rattle.std.proofs.Common.{◌≡◌, ◌≤◌, ◌+◌, ◌*◌, List, [], ◌++◌, drop}
use Rattle.std.specs.List.{AllByRecursion}
use Rattle.plan_language.specs.Limits.{few}
use Rattle.plan_language.specs.Lines.{count, plan_commands, IsLine}
use Rattle.plan_language.specs.declared.plan_command.PlanCommand.{PlanCommand}
use Rattle.cluster_admin.specs.Phases.{Phases}
use Rattle.plan_runner.specs.Standing.{Stands}
use Rattle.plan_runner.proofs.plan_check.PlanCheck.take_all.Given as goal

-- the commands that were taken, with those of the lines that are left, are the plan's
abbrev pub invariant-loop-line : goal.invariant-loop-line
invariant-loop-line g l =
    AllByRecursion IsLine (drop l.line-index l.lines)
    × (l.self.commands + 260 * count few (drop l.line-index l.lines) ≤ 1099038720)
    × ((phases : Phases) → Stands l.fn.rules.version l.fn.rules.nodes phases [] l.fn.self
    → (taken : List PlanCommand) × Stands l.fn.rules.version l.fn.rules.nodes phases taken l.self
    × (plan_commands l.fn.rules.nodes l.lines ≡ taken ++ plan_commands l.fn.rules.nodes (drop l.line-index l.lines)))
