-- What contracts see of the commands of a plan that are left.
use Rattle.std.specs.Prelude.{ℕ, List}
use Rattle.plan_language.specs.declared.plan_command.PlanCommand.{PlanCommand}

-- the commands that are left, in a cluster of so many nodes
pub record CommandsView : Type 0 where
  pub nodes : ℕ
  pub left : List PlanCommand
