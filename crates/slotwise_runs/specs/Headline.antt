-- The headline slot by slot: of every run whose calls are seen of each slot, in whatever order slots are moved, also
-- several at once, and whatever commands of honest clients come between.
use Rattle.std.specs.Prelude.{◌≡◌, ◌<◌, ◌≤◌, ℕ, List, [], ◌∷◌, ◌++◌, length, Some}
use Rattle.cluster_admin.specs.Phases as phase
use Rattle.cluster_admin.specs.Phases.{Phases}
use Rattle.cluster_admin.specs.declared.admin.AdminReply.{AdminReply}
use Rattle.cluster_admin.specs.declared.call.AdminCall.{AdminCall}
use Rattle.cluster_world.specs.AdminCalls.{calls}
use Rattle.cluster_world.specs.Cleanness.{Clean}
use Rattle.cluster_world.specs.Honesty.{Honest, past_of}
use Rattle.cluster_world.specs.Openness.{HasPhaseAt, IsSplit, Open}
use Rattle.cluster_world.specs.Servers.{MayReply, ServerRun}
use Rattle.cluster_world.specs.Serving.{replay_of, served, store_after}
use Rattle.cluster_world.specs.Steps.{Run}
use Rattle.cluster_world.specs.Worlds.{World}
use Rattle.cluster_world.specs.declared.event.Event.{Event}
use Rattle.cluster_world.specs.declared.event.Event.TheVariants.{Admin}
use Rattle.plan_language.specs.declared.plan_command.PlanCommand.{PlanCommand}
use Rattle.plan_semantics.specs.Driving.{NoRefusal, Remaining, Spelled, whole}
use Rattle.plan_semantics.specs.Orders.{sending}
use Rattle.plan_semantics.specs.Plans.{IsFinal, Legal, final_owner, part}
use Rattle.plan_semantics.specs.Unrolling.{Unrolls}
use Rattle.plan_semantics.specs.declared.order.Order.{Order}
use Rattle.reshard_theorem.specs.DrivenRuns.{NeverGains}
use Rattle.reshard_theorem.specs.Starts.{Reshard, Starts, cost_of}
use Rattle.slotwise_runs.specs.Seen.{AreSeen, AreSeenOfEachSlot, UnrollsEachSlot, of_slot, slot_called}

-- a run of servers so far, as the theorem supposes it: a world's own run is one, and so is the trail of threads
pub record IsSeenRun (reshard : Reshard) (events : List Event) (last : World) : Type 0 where
  -- the verifier accepts the plan, and the cluster is open, as it was surveyed, or clean
  pub starts : Starts reshard
  -- each event is a step, as a server answers it
  pub run : ServerRun reshard.first events last
  -- of each slot, this plan alone drives it
  pub seen : AreSeen reshard.phases reshard.plan (calls events)
  -- clients ask only where an ASK told them to
  pub honest : Honest reshard.first reshard.before events

-- One command that names the slot, to a node that is there, continues by its part, whatever the server replies, and no
-- other that names it does
pub record HasNextOfSlot (plan : List PlanCommand) (events : List Event) (last : World) (s : ℕ) : Type 0 where
  pub left : Remaining
  pub leaves : Spelled (whole (part plan s)) (of_slot s (calls events)) left
  pub order : Order
  pub is_next : sending left.rest left.listed ≡ Some order
  pub there : order.node < length last.nodes
  pub names : slot_called order.command ≡ s
  pub seen : (reply : AdminReply) → MayReply last order.node order.command reply
      → AreSeenOfEachSlot plan (calls (events ++ Admin order.node order.command reply ∷ []))
  pub only : (c : AdminCall) → slot_called c.command ≡ s → AreSeenOfEachSlot plan (calls events ++ c ∷ [])
      → (c.node ≡ order.node) × (c.command ≡ order.command)

-- the cluster where a run stops is open, and one plan of version 3 carries out the rest of each part
pub record IsLeftOpen (reshard : Reshard) (events : List Event) (last : World) : Type 0 where
  pub now : Phases
  pub is_open : Open last now (store_after reshard.store (served events)) (past_of reshard.before events)
  pub rests : List PlanCommand
  pub legal : Legal 3 rests now (length last.nodes)
  pub owners : (s : ℕ) → final_owner rests now s ≡ final_owner reshard.plan reshard.phases s

-- at any moment of the run, by the plan that tells in the order of the calls
pub record HeadlineBySlots (reshard : Reshard) (plan : List PlanCommand) (events : List Event) (last : World)
    : Type 0 where
  -- no administrative reply is a refusal
  pub no_refusal : NoRefusal (calls events)
  -- the administrative commands are at most the plan's cost
  pub within_cost : length (calls events) ≤ cost_of reshard events
  -- the replies that were served are those of one undivided store, given the commands in serving order
  pub replies_replay : served events ≡ replay_of reshard.store (served events)
  -- each key lies at one node at most, and all nodes together hold exactly that store
  pub one_store : IsSplit last (store_after reshard.store (served events))
  -- a node that owns a slot and has its migrating mark gains no key of the slot
  pub source_gains_nothing : NeverGains reshard.first events
  -- a slot whose part is carried out is closed at its final owner, in every table
  pub closed : (s : ℕ) → Unrolls (part plan s) (of_slot s (calls events))
      → HasPhaseAt last s (phase.Closed (final_owner reshard.plan reshard.phases s))
  -- a plan that is carried out leaves a clean cluster under the plan's final owners, with that store
  pub clean_end : UnrollsEachSlot plan (calls events) → (final : List ℕ)
      → IsFinal reshard.plan reshard.phases final
      → Clean last final (store_after reshard.store (served events))
  -- until then one command of the slot continues
  pub goes_on : (s : ℕ) → (Unrolls (part plan s) (of_slot s (calls events)) → ⊥) → HasNextOfSlot plan events last s
  -- wherever it stops, the rest can be resumed
  pub left_open : IsLeftOpen reshard events last

abbrev pub HeadlineInAnyOrderOfSlots : Type 0
HeadlineInAnyOrderOfSlots = (reshard : Reshard) (events : List Event) (last : World)
    → (seen : IsSeenRun reshard events last) → HeadlineBySlots reshard seen.seen.as_told events last
