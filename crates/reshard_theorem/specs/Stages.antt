-- Several plans, one after the other, each verified where the one before it stopped.
use Rattle.std.specs.Prelude.{◌≡◌, ℕ, List, [], ◌∷◌, ◌++◌, length}
use Rattle.store_commands.specs.Store.{Store}
use Rattle.cluster_world.specs.Worlds.{World}
pub use Rattle.cluster_world.specs.Earning.{world_after}
use Rattle.cluster_world.specs.Steps.{Run}
use Rattle.cluster_world.specs.declared.event.Event.{Event}
use Rattle.cluster_world.specs.Honesty.{Honest, past_of}
use Rattle.cluster_world.specs.Serving.{served, store_after}
use Rattle.plan_language.specs.declared.plan_command.PlanCommand.{PlanCommand}
use Rattle.cluster_admin.specs.Phases.{Phases}
use Rattle.plan_semantics.specs.Plans.{Legal}
use Rattle.cluster_world.specs.Openness.{HavePhases, Open}
use Rattle.cluster_world.specs.AdminCalls.{calls}
use Rattle.plan_semantics.specs.Unrolling.{IsPrefix}
use Rattle.reshard_theorem.specs.Headline.{Headline}
use Rattle.reshard_theorem.specs.Starts.{Reshard}

-- a plan, the phases that the survey showed where it was verified, and the events up to the next one
pub record Stage : Type 0 where
  pub version : ℕ
  pub plan : List PlanCommand
  pub phases : Phases
  pub events : List Event

-- its setting
abbrev pub stage_start : World → Store → List Event → Stage → Reshard
stage_start w store before x = record {
  version = x.version;
  plan = x.plan;
  phases = x.phases;
  store = store;
  before = before;
  first = w;
}

abbrev pub stage_events : List Stage → List Event
stage_events [] = []
stage_events (x ∷ xs) = x.events ++ stage_events xs

-- each was verified against the survey where the one before it stopped, and its calls are a prefix of an unrolling
abbrev pub AreStages : World → List Stage → Type 0
AreStages w [] = Unit {0}
AreStages w (x ∷ xs) =
    HavePhases w x.phases × Legal x.version x.plan x.phases (length w.nodes) × IsPrefix x.plan (calls x.events)
    × AreStages (world_after w x.events) xs

-- all seven clauses hold of each plan
abbrev pub EachHolds : World → Store → List Event → List Stage → Type 0
EachHolds w store before [] = Unit {0}
EachHolds w store before (x ∷ xs) =
    Headline (stage_start w store before x) x.events (world_after w x.events)
    × EachHolds (world_after w x.events) (store_after store (served x.events)) (past_of before x.events) xs

abbrev pub HeadlineOverPlans : Type 0
HeadlineOverPlans = (stages : List Stage) (w last : World) (phases : Phases) (store : Store) (before : List Event)
    → Open w phases store before → AreStages w stages → Run w (stage_events stages) last
    → Honest w before (stage_events stages) → EachHolds w store before stages
