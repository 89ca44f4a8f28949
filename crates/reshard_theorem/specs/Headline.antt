-- The headline: when the verifier accepts a plan, every run from a clean or an open cluster, whatever commands of
-- honest clients come between its steps, meets no administrative error and stays within the plan's cost; and once the
-- plan is carried out, the cluster is clean under its final owners. All the while, replies and contents are those of
-- one undivided store.
use Rattle.std.specs.Prelude.{◌≡◌, ℕ, ◌≤◌, ◌<◌, List, [], ◌∷◌, ◌++◌, length, Option, Some}
use Rattle.store_commands.specs.Store.{Key, Store}
use Rattle.cluster_world.specs.Worlds.{World}
use Rattle.cluster_world.specs.Steps.{Run}
use Rattle.cluster_world.specs.Serving.{served, replay_of, store_after}
use Rattle.cluster_world.specs.Cleanness.{Clean}
use Rattle.cluster_world.specs.Honesty.{Honest}
use Rattle.cluster_admin.specs.declared.call.AdminCall.{AdminCall}
use Rattle.cluster_world.specs.declared.event.Event.{Event}
use Rattle.plan_language.specs.declared.plan_command.PlanCommand.{PlanCommand}
use Rattle.plan_semantics.specs.declared.order.Order.{Order}
use Rattle.plan_semantics.specs.Plans.{Legal, IsFinal}
use Rattle.plan_semantics.specs.Driving.{Remaining, NoRefusal}
use Rattle.cluster_world.specs.AdminCalls.{calls}
use Rattle.reshard_theorem.specs.Driven.{DrivenTo, Driven}
use Rattle.plan_semantics.specs.Unrolling.{Unrolls, IsPrefix}
use Rattle.plan_semantics.specs.Orders.{sending}
use Rattle.reshard_theorem.specs.DrivenRuns.{NeverGains, by_order}
use Rattle.cluster_admin.specs.Phases.{Phases}
use Rattle.cluster_world.specs.Openness.{IsSplit, Open}
use Rattle.reshard_theorem.specs.Starts.{Reshard, Starts, cost_of}

-- a run so far, from `first` to `last`, as the headline supposes it
pub record IsRunOf (reshard : Reshard) (events : List Event) (last : World) : Type 0 where
  -- the verifier accepts the plan, and the cluster is open, as it was surveyed, or clean
  pub starts : Starts reshard
  -- each event is a step
  pub run : Run reshard.first events last
  -- this plan alone drives the run
  pub driven : Driven reshard.plan events
  -- clients ask only where an ASK told them to
  pub honest : Honest reshard.first reshard.before events

-- one command of the administrator, to a node that is there, continues by the plan, and no other does
pub record HasNext (plan : List PlanCommand) (events : List Event) (last : World) : Type 0 where
  pub left : Remaining
  pub drives : DrivenTo plan events left
  pub order : Order
  pub is_next : sending left.rest left.listed ≡ Some order
  pub there : order.node < length last.nodes
  pub driven : Driven plan (events ++ by_order last order ∷ [])
  pub only : (c : AdminCall) → IsPrefix plan (calls events ++ c ∷ [])
      → (c.node ≡ order.node) × (c.command ≡ order.command)

-- the seven clauses, at any moment of the run
pub record Headline (reshard : Reshard) (events : List Event) (last : World) : Type 0 where
  -- NoRefusal: no administrative reply is a refusal
  pub no_refusal : NoRefusal (calls events)
  -- WithinCost: the administrative commands are at most the plan's cost
  pub within_cost : length (calls events) ≤ cost_of reshard events
  -- RepliesReplay: the replies that were served are those of one undivided store, given the commands in serving order
  pub replies_replay : served events ≡ replay_of reshard.store (served events)
  -- OneStore: each key lies at one node at most, and all nodes together hold exactly that store
  pub one_store : IsSplit last (store_after reshard.store (served events))
  -- SourceGainsNothing: a node that owns a slot and has its migrating mark gains no key of the slot
  pub source_gains_nothing : NeverGains reshard.first events
  -- CleanEnd: a plan that is carried out leaves a clean cluster under the plan's final owners, with that store
  pub clean_end : Unrolls reshard.plan (calls events) → (final : List ℕ) → IsFinal reshard.plan reshard.phases final
      → Clean last final (store_after reshard.store (served events))
  -- GoesOn: until then one command continues
  pub goes_on : (Unrolls reshard.plan (calls events) → ⊥) → HasNext reshard.plan events last

abbrev pub HeadlineHolds : Type 0
HeadlineHolds = (reshard : Reshard) (events : List Event) (last : World)
    → IsRunOf reshard events last → Headline reshard events last

-- at each moment: what came before it is such a run, too
abbrev pub HoldsAtEachMoment : Type 0
HoldsAtEachMoment = (reshard : Reshard)
    (so_far more : List Event) (last : World)
    → IsRunOf reshard (so_far ++ more) last
    → (now : World) × IsRunOf reshard so_far now × Run now more last
