-- What contracts see of a plan that runs.
use Rattle.std.specs.Prelude.{ℕ, Bool, List, Option, None, is_some}
use Rattle.cluster_admin.specs.Keys.{Key}
use Rattle.plan_language.specs.declared.plan_command.PlanCommand.{PlanCommand}
use Rattle.plan_semantics.specs.Driving.{Remaining, remaining}

-- The next command is not sent yet. `listed` are the keys of a listing that no MIGRATE has followed yet; `spent`
-- replies were taken, of `most`
pub record Progress : Type 0 where
  pub nodes : ℕ
  pub rest : List PlanCommand
  pub listed : Option (List Key)
  pub spent : ℕ
  pub most : ℕ

-- what is left of the plan
abbrev pub left_of : Progress → Remaining
left_of p = remaining p.rest p.listed

-- the reply to the next command is awaited; `open_still` says that the command is a MIGRATE
pub record Waits : Type 0 where
  pub nodes : ℕ
  pub rest : List PlanCommand
  pub open_still : Bool
  pub spent : ℕ
  pub most : ℕ

-- before the first command
abbrev pub at_start : (nodes : ℕ) → (plan : List PlanCommand) → (most : ℕ) → Progress
at_start n plan most = record { nodes = n; rest = plan; listed = None; spent = 0; most = most }

-- the next command was sent
abbrev pub waits : Progress → Waits
waits p =
    record { nodes = p.nodes; rest = p.rest; open_still = is_some p.listed; spent = p.spent; most = p.most }
