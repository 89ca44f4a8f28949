-- The headline over servers: the same seven clauses, whichever keys of a slot a listing names, and in whatever order.
use Rattle.std.specs.Prelude.{◌≡◌, ℕ, ◌≤◌, ◌<◌, List, [], ◌∷◌, ◌++◌, length, Option, Some}
use Rattle.store_commands.specs.Store.{Key, Store}
use Rattle.cluster_admin.specs.declared.admin.AdminReply.{AdminReply}
use Rattle.cluster_world.specs.Worlds.{World}
use Rattle.cluster_world.specs.Cleanness.{Clean}
use Rattle.cluster_world.specs.Serving.{served, replay_of, store_after}
use Rattle.cluster_world.specs.Servers.{MayReply, ServerRun}
use Rattle.cluster_admin.specs.Phases.{Phases}
use Rattle.cluster_world.specs.Openness.{IsSplit, Open}
use Rattle.cluster_world.specs.declared.event.Event.{Event}
use Rattle.cluster_world.specs.declared.event.Event.TheVariants.{Admin}
use Rattle.cluster_world.specs.Honesty.{Honest, past_of}
use Rattle.cluster_admin.specs.declared.call.AdminCall.{AdminCall}
use Rattle.plan_language.specs.declared.plan_command.PlanCommand.{PlanCommand}
use Rattle.plan_semantics.specs.Plans.{Legal, IsFinal}
use Rattle.plan_semantics.specs.declared.order.Order.{Order}
use Rattle.plan_semantics.specs.Orders.{sending}
use Rattle.plan_semantics.specs.Driving.{Remaining, NoRefusal}
use Rattle.cluster_world.specs.AdminCalls.{calls}
use Rattle.reshard_theorem.specs.Driven.{DrivenTo, Driven}
use Rattle.plan_semantics.specs.Unrolling.{Unrolls, IsPrefix}
use Rattle.reshard_theorem.specs.DrivenRuns.{NeverGains}
use Rattle.reshard_theorem.specs.Stages.{Stage, stage_events, stage_start, AreStages, world_after}
use Rattle.reshard_theorem.specs.Starts.{Reshard, Starts, cost_of}

-- a run of servers so far, as the headline supposes it
pub record IsServerRunOf (reshard : Reshard) (events : List Event) (last : World)
    : Type 0 where
  pub starts : Starts reshard
  -- each event is a step, as a server answers it
  pub run : ServerRun reshard.first events last
  pub driven : Driven reshard.plan events
  pub honest : Honest reshard.first reshard.before events

-- one command of the administrator, to a node that is there, continues by the plan, whatever the server replies, and no
-- other does
pub record HasServerNext (plan : List PlanCommand) (events : List Event) (last : World) : Type 0 where
  pub left : Remaining
  pub drives : DrivenTo plan events left
  pub order : Order
  pub is_next : sending left.rest left.listed ≡ Some order
  pub there : order.node < length last.nodes
  pub driven : (reply : AdminReply) → MayReply last order.node order.command reply
      → Driven plan (events ++ Admin order.node order.command reply ∷ [])
  pub only : (c : AdminCall) → IsPrefix plan (calls events ++ c ∷ [])
      → (c.node ≡ order.node) × (c.command ≡ order.command)

-- the seven clauses; only the last differs from those over the world's own replies
pub record ServerHeadline (reshard : Reshard) (events : List Event) (last : World)
    : Type 0 where
  pub no_refusal : NoRefusal (calls events)
  pub within_cost : length (calls events) ≤ cost_of reshard events
  pub replies_replay : served events ≡ replay_of reshard.store (served events)
  pub one_store : IsSplit last (store_after reshard.store (served events))
  pub source_gains_nothing : NeverGains reshard.first events
  pub clean_end : Unrolls reshard.plan (calls events) → (final : List ℕ) → IsFinal reshard.plan reshard.phases final
      → Clean last final (store_after reshard.store (served events))
  pub goes_on : (Unrolls reshard.plan (calls events) → ⊥) → HasServerNext reshard.plan events last

abbrev pub ServerHeadlineHolds : Type 0
ServerHeadlineHolds = (reshard : Reshard) (events : List Event) (last : World)
    → IsServerRunOf reshard events last → ServerHeadline reshard events last

abbrev pub ServersHoldAtEachMoment : Type 0
ServersHoldAtEachMoment = (reshard : Reshard) (so_far more : List Event) (last : World)
    → IsServerRunOf reshard (so_far ++ more) last
    → (now : World) × IsServerRunOf reshard so_far now × ServerRun now more last

-- ---- several plans

abbrev pub EachServerHolds : World → Store → List Event → List Stage → Type 0
EachServerHolds w store before [] = Unit {0}
EachServerHolds w store before (x ∷ xs) =
    ServerHeadline (stage_start w store before x) x.events (world_after w x.events)
    × EachServerHolds (world_after w x.events) (store_after store (served x.events)) (past_of before x.events) xs

abbrev pub ServerHeadlineOverPlans : Type 0
ServerHeadlineOverPlans = (stages : List Stage) (w last : World) (phases : Phases) (store : Store) (before : List Event)
    → Open w phases store before → AreStages w stages → ServerRun w (stage_events stages) last
    → Honest w before (stage_events stages) → EachServerHolds w store before stages
