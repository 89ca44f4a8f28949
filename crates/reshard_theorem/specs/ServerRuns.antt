-- What holds of every run of servers that a plan drives, whichever keys their listings name.
use Rattle.std.specs.Prelude.{◌≡◌, ℕ, ◌≤◌, ◌<◌, List, [], ◌∷◌, ◌++◌, length, Option, Some}
use Rattle.store_commands.specs.Store.{Key, Store}
use Rattle.cluster_admin.specs.declared.admin.AdminReply.{AdminReply}
use Rattle.cluster_world.specs.Worlds.{World}
use Rattle.cluster_world.specs.Cleanness.{Clean}
use Rattle.cluster_world.specs.Serving.{served, replay_of, store_after}
use Rattle.cluster_world.specs.Servers.{MayReply, ServerRun}
use Rattle.cluster_admin.specs.Phases.{Phases}
use Rattle.cluster_world.specs.Openness.{IsSplit, Open}
use Rattle.cluster_world.specs.declared.event.Event.{Event}
use Rattle.cluster_world.specs.declared.event.Event.TheVariants.{Admin}
use Rattle.cluster_world.specs.Honesty.{Honest, past_of}
use Rattle.plan_language.specs.declared.plan_command.PlanCommand.{PlanCommand}
use Rattle.plan_semantics.specs.Plans.{Legal, IsFinal}
use Rattle.plan_semantics.specs.Driving.{Remaining, NoRefusal}
use Rattle.cluster_world.specs.AdminCalls.{calls}
use Rattle.reshard_theorem.specs.Driven.{DrivenTo}
use Rattle.cluster_admin.specs.declared.call.AdminCall.{AdminCall}
use Rattle.plan_semantics.specs.declared.order.Order.{Order}
use Rattle.plan_semantics.specs.Orders.{sending}
use Rattle.plan_semantics.specs.Unrolling.{Unrolls, IsPrefix}
use Rattle.reshard_theorem.specs.DrivenRuns.{NeverGains}
use Rattle.reshard_theorem.specs.QuietRuns.{NoClients, IsQuietReshard}
use Rattle.plan_semantics.specs.Retargets.{HasNoRetarget}
use Rattle.reshard_theorem.specs.Reimports.{NoneReimported}
use Rattle.reshard_theorem.specs.Starts.{Reshard, Starts, cost_of}

-- a run of servers from an open world that a legal plan drives, so far that this is left of it
pub record IsDrivenServerRun (reshard : Reshard) (events : List Event) (last : World)
    (left : Remaining) : Type 0 where
  pub starts : Starts reshard
  pub run : ServerRun reshard.first events last
  pub driven : DrivenTo reshard.plan events left

-- each ASKING is earned, too
pub record IsHonestServerRun (reshard : Reshard) (events : List Event) (last : World)
    (left : Remaining) : Type 0 where
  pub drives : IsDrivenServerRun reshard events last left
  pub honest : Honest reshard.first reshard.before events

-- ---- whatever clients do

abbrev pub ServersWithinCost : Type 0
ServersWithinCost = (reshard : Reshard) (events : List Event) (last : World) (left : Remaining)
    → IsDrivenServerRun reshard events last left
    → length (calls events) ≤ cost_of reshard events

abbrev pub ServersGainNothing : Type 0
ServersGainNothing = (reshard : Reshard) (events : List Event) (last : World) (left : Remaining)
    → IsDrivenServerRun reshard events last left
    → NeverGains reshard.first events

-- The next command goes to a node of the world. Whatever the server replies, its event leaves the run driven; no other
-- call would
pub record ServerGoesOn (plan : List PlanCommand) (events : List Event) (last : World) (left : Remaining) : Type 0 where
  pub order : Order
  pub is_next : sending left.rest left.listed ≡ Some order
  pub there : order.node < length last.nodes
  pub driven : (reply : AdminReply) → MayReply last order.node order.command reply
      → (more : Remaining) × DrivenTo plan (events ++ Admin order.node order.command reply ∷ []) more
  pub only : (c : AdminCall) → IsPrefix plan (calls events ++ c ∷ [])
      → (c.node ≡ order.node) × (c.command ≡ order.command)

abbrev pub SomeServerGoesOn : Type 0
SomeServerGoesOn = (reshard : Reshard) (events : List Event) (last : World) (left : Remaining)
    → IsDrivenServerRun reshard events last left
    → NoRefusal (calls events) → (Unrolls reshard.plan (calls events) → ⊥) → ServerGoesOn reshard.plan events last left

abbrev pub ServersStayBelowCost : Type 0
ServersStayBelowCost = (reshard : Reshard) (events : List Event) (last : World) (left : Remaining)
    → IsDrivenServerRun reshard events last left
    → NoRefusal (calls events) → (Unrolls reshard.plan (calls events) → ⊥)
    → (order : Order) × (sending left.rest left.listed ≡ Some order)
    × ((reply : AdminReply) → MayReply last order.node order.command reply → length (calls events)
    < cost_of reshard (events ++ Admin order.node order.command reply ∷ []))

-- ---- where clients are honest

abbrev pub NoServerRefuses : Type 0
NoServerRefuses = (reshard : Reshard) (events : List Event) (last : World) (left : Remaining)
    → IsHonestServerRun reshard events last left → NoRefusal (calls events)

abbrev pub ServersReplay : Type 0
ServersReplay = (reshard : Reshard) (events : List Event) (last : World) (left : Remaining)
    → IsHonestServerRun reshard events last left
    → served events ≡ replay_of reshard.store (served events)

abbrev pub ServersAreOneStore : Type 0
ServersAreOneStore = (reshard : Reshard) (events : List Event) (last : World) (left : Remaining)
    → IsHonestServerRun reshard events last left
    → IsSplit last (store_after reshard.store (served events))

abbrev pub ServersEndClean : Type 0
ServersEndClean = (final : List ℕ) (reshard : Reshard) (events : List Event) (last : World) (left : Remaining)
    → IsHonestServerRun reshard events last left
    → Unrolls reshard.plan (calls events) → IsFinal reshard.plan reshard.phases final
    → Clean last final (store_after reshard.store (served events))

abbrev pub ServerPrefixesAreDriven : Type 0
ServerPrefixesAreDriven = (reshard : Reshard) (events : List Event) (last : World)
    → Starts reshard → ServerRun reshard.first events last
    → IsPrefix reshard.plan (calls events) → Honest reshard.first reshard.before events
    → (left : Remaining) × IsHonestServerRun reshard events last left

abbrev pub ServerPrefixesAreHonestRuns : Type 0
ServerPrefixesAreHonestRuns = (reshard : Reshard) (so_far more : List Event) (last : World) (left : Remaining)
    → IsHonestServerRun reshard (so_far ++ more) last left
    → (now : World) × (left : Remaining) × IsHonestServerRun reshard so_far now left × ServerRun now more last

-- a run may be stopped anywhere: it leaves an open world, with what was asked before and in the run
abbrev pub ServersLeaveOpen : Type 0
ServersLeaveOpen = (reshard : Reshard) (events : List Event) (last : World) (left : Remaining)
    → IsHonestServerRun reshard events last left
    → (now : Phases) × Open last now (store_after reshard.store (served events)) (past_of reshard.before events)

-- with no client between its steps a plan takes exactly its cost
abbrev pub QuietServers : Type 0
QuietServers = (reshard : Reshard) (events : List Event) (last : World)
    → Starts reshard → ServerRun reshard.first events last
    → Unrolls reshard.plan (calls events) → NoClients events
    → IsQuietReshard reshard events last

-- where no slot has one node as the target twice, each ASK stands
abbrev pub AsksStandAtServers : Type 0
AsksStandAtServers = (reshard : Reshard) (events : List Event) (last : World) (left : Remaining)
    → IsDrivenServerRun reshard events last left → HasNoRetarget reshard.plan reshard.phases
    → NoneReimported reshard.first events
