-- The theorem over a world's own replies, and over what threads did at the same time.
use Rattle.std.specs.Prelude.{◌≡◌, ℕ, List, [], None}
use Rattle.key_slots.specs.Owners.{IsTable}
use Rattle.cluster_admin.specs.Phases.{closed_by}
use Rattle.cluster_world.specs.AdminCalls.{calls}
use Rattle.cluster_world.specs.Earning.{IsFirstDishonest}
use Rattle.cluster_world.specs.Honesty.{Honest}
use Rattle.cluster_world.specs.Steps.{Run}
use Rattle.cluster_world.specs.Trails.{Trail, opening}
use Rattle.cluster_world.specs.Worlds.{World}
use Rattle.cluster_world.specs.declared.event.Event.{Event}
use Rattle.plan_language.specs.declared.plan_command.PlanCommand.{PlanCommand}
use Rattle.plan_semantics.specs.Plans.{Legal}
use Rattle.reshard_theorem.specs.Starts.{Reshard, Starts}
use Rattle.reshard_theorem.specs.Threads.{from_opening}
use Rattle.slotwise_runs.specs.Headline.{HeadlineBySlots}
use Rattle.slotwise_runs.specs.Seen.{AreSeen}

-- a run of a world, which answers as its nodes do
abbrev pub WorldHeadlineBySlots : Type 0
WorldHeadlineBySlots = (reshard : Reshard) (events : List Event) (last : World) → Starts reshard
    → Run reshard.first events last → (seen : AreSeen reshard.phases reshard.plan (calls events))
    → Honest reshard.first reshard.before events → HeadlineBySlots reshard seen.as_told events last

-- The plan is legal for the table at the opening, of each slot the administrator's calls follow it, and the search for
-- an event that is not honest finds none
pub record IsSeenTrail (version : ℕ) (plan : List PlanCommand) (t : Trail) (last : World) : Type 0 where
  pub table : IsTable t.owners
  pub legal : Legal version plan (closed_by t.owners.owners) t.owners.nodes
  pub run : Run (opening t) t.events last
  pub seen : AreSeen (closed_by t.owners.owners) plan (calls t.events)
  pub searched : IsFirstDishonest (opening t) t.events None

abbrev pub TrailHeadlineBySlots : Type 0
TrailHeadlineBySlots = (version : ℕ) (plan : List PlanCommand) (t : Trail) (last : World)
    → (trail : IsSeenTrail version plan t last)
    → HeadlineBySlots (from_opening version plan t) trail.seen.as_told t.events last
