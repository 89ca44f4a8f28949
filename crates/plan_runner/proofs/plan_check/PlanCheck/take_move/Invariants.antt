use Rattle.std.proofs.Common.{◌≤◌, ℕ, ◌+◌, ◌-◌, ◌*◌, List, ◌++◌}
use Rattle.plan_language.specs.Lines.{moves}
use Rattle.plan_language.specs.declared.plan_command.PlanCommand.{PlanCommand}
use Rattle.cluster_admin.specs.Phases.{Phases}
use Rattle.plan_runner.specs.Standing.{Stands}
use Rattle.plan_runner.proofs.plan_check.PlanCheck.take_move.Given as goal

-- the slots below this one are moved
abbrev pub invariant-loop-number : goal.invariant-loop-number
invariant-loop-number g l =
    (l.fn.first ≤ l.number)
    × (l.self.commands + 260 * (l.fn.last + 1 - l.number) ≤ l.fn.self.commands + 260 * (l.fn.last + 1 - l.fn.first))
    × ((b : ℕ) (phases : Phases) (prefix : List PlanCommand) → Stands l.fn.rules.version l.fn.rules.nodes phases prefix l.fn.self
    → Stands l.fn.rules.version l.fn.rules.nodes phases (prefix ++ moves l.fn.rules.nodes l.fn.first (l.number - l.fn.first) l.fn.source l.fn.target b) l.self)
