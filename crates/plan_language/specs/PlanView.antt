-- What contracts see of a plan.
use Rattle.std.specs.Prelude.{List, ℕ, Option}
use Rattle.node_names.specs.Names.{Names}
use Rattle.plan_language.specs.declared.line.Line.{Line}

-- the version of its rules, the nodes that its text lists with their names, if it is of a version that lists them, and
-- its lines between these and the end
pub record PlanView : Type 0 where
  pub version : ℕ
  pub names : Option Names
  pub lines : List Line
