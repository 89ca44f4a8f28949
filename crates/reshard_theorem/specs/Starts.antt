-- Where a plan starts: the setting of everything that is said of its runs.
use Rattle.std.specs.Prelude.{ℕ, List, length}
use Rattle.store_commands.specs.Store.{Store}
use Rattle.cluster_world.specs.Worlds.{World}
use Rattle.cluster_world.specs.declared.event.Event.{Event}
use Rattle.plan_language.specs.declared.plan_command.PlanCommand.{PlanCommand}
use Rattle.cluster_admin.specs.Phases.{Phases}
use Rattle.cluster_world.specs.Openness.{Open}
use Rattle.reshard_theorem.specs.Counts.{counts, first_counts}
use Rattle.plan_semantics.specs.Costs.{plan_cost}
use Rattle.plan_semantics.specs.Plans.{Legal}

-- a plan, and the world in which it starts
pub record Reshard : Type 0 where
  pub version : ℕ
  pub plan : List PlanCommand
  -- the phases of the slots, as a survey showed them
  pub phases : Phases
  -- what the nodes hold, as one store
  pub store : Store
  -- the events before, the newest first
  pub before : List Event
  pub first : World

pub record Starts (reshard : Reshard) : Type 0 where
  -- the verifier accepts the plan for these phases
  pub legal : Legal reshard.version reshard.plan reshard.phases (length reshard.first.nodes)
  -- the cluster is open, as it was surveyed, or clean
  pub is_open : Open reshard.first reshard.phases reshard.store reshard.before

-- the plan's cost, by the keys that each slot has when it is marked in this run
abbrev pub cost_of : Reshard → List Event → ℕ
cost_of reshard events =
    plan_cost (counts (first_counts reshard.first reshard.plan) reshard.first events) reshard.plan
