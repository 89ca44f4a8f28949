-- The headline over what threads did at the same time: it holds of the trail that puts their calls into one order.
use Rattle.std.specs.Prelude.{◌≡◌, ℕ, List, [], None}
use Rattle.std.specs.FinMap as finite
use Rattle.key_slots.specs.Owners.{IsTable}
use Rattle.cluster_world.specs.Worlds.{World}
use Rattle.cluster_world.specs.Steps.{Run}
use Rattle.cluster_world.specs.AdminCalls.{calls}
use Rattle.cluster_world.specs.Earning.{IsFirstDishonest}
use Rattle.cluster_admin.specs.Phases.{closed_by}
use Rattle.cluster_world.specs.Trails.{Trail, opening}
use Rattle.plan_language.specs.declared.plan_command.PlanCommand.{PlanCommand}
use Rattle.plan_semantics.specs.Plans.{Legal}
use Rattle.reshard_theorem.specs.Starts.{Reshard}
use Rattle.plan_semantics.specs.Unrolling.{IsPrefix}
use Rattle.reshard_theorem.specs.Headline.{Headline}
use Rattle.reshard_theorem.specs.Stages.{Stage, stage_events, AreStages, EachHolds}

-- The events are a run from the opening in which these plans were armed one after the other, each legal where the one
-- before it stopped, and the search for an event that is not honest finds none
pub record IsTrailOf (stages : List Stage) (t : Trail) (last : World) : Type 0 where
  pub table : IsTable t.owners
  pub are_stages : AreStages (opening t) stages
  pub events_are : t.events ≡ stage_events stages
  pub run : Run (opening t) t.events last
  pub searched : IsFirstDishonest (opening t) t.events None

-- all seven clauses hold of each plan
abbrev pub HeadlineOverThreads : Type 0
HeadlineOverThreads = (stages : List Stage) (t : Trail) (last : World) → IsTrailOf stages t last
    → EachHolds (opening t) finite.empty [] stages

-- ---- one plan

-- a plan that starts at the opening
abbrev pub from_opening : (version : ℕ) → List PlanCommand → Trail → Reshard
from_opening version plan t = record {
  version = version;
  plan = plan;
  phases = closed_by t.owners.owners;
  store = finite.empty;
  before = [];
  first = opening t;
}

-- the plan is legal for the table at the opening, and the administrator's calls are a prefix of an unrolling of it
pub record IsTrailOfOne (version : ℕ) (plan : List PlanCommand) (t : Trail) (last : World) : Type 0 where
  pub table : IsTable t.owners
  pub legal : Legal version plan (closed_by t.owners.owners) t.owners.nodes
  pub run : Run (opening t) t.events last
  pub prefix : IsPrefix plan (calls t.events)
  pub searched : IsFirstDishonest (opening t) t.events None

-- all seven clauses hold of the trail
abbrev pub HeadlineOfOnePlan : Type 0
HeadlineOfOnePlan = (version : ℕ) (plan : List PlanCommand) (t : Trail) (last : World)
    → IsTrailOfOne version plan t last → Headline (from_opening version plan t) t.events last
