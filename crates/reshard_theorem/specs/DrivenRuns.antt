-- What holds of every run that a plan drives, whatever its clients do.
use Rattle.std.specs.Prelude.{◌≡◌, ◌≢◌, ℕ, ◌≤◌, List, [], ◌∷◌, length, Option, None, ◌<◌, ◌++◌, Some}
use Rattle.key_slots.specs.HashSlot.{slot_of}
use Rattle.store_commands.specs.Store.{Key, Store}
use Rattle.cluster_world.specs.Worlds.{World, owner, migrating, held}
use Rattle.cluster_world.specs.Steps.{after, Run}
use Rattle.cluster_admin.specs.Phases.{Phases}
use Rattle.cluster_world.specs.Openness.{Open}
use Rattle.cluster_world.specs.declared.event.Event.{Event}
use Rattle.plan_language.specs.declared.plan_command.PlanCommand.{PlanCommand}
use Rattle.plan_semantics.specs.Plans.{Legal}
use Rattle.plan_semantics.specs.Driving.{Remaining, NoRefusal}
use Rattle.cluster_world.specs.AdminCalls.{calls}
use Rattle.reshard_theorem.specs.Driven.{DrivenTo}
use Rattle.reshard_theorem.specs.Counts.{counts}
use Rattle.cluster_world.specs.Commanding.{admin_reply}
use Rattle.cluster_admin.specs.declared.call.AdminCall.{AdminCall}
use Rattle.cluster_world.specs.declared.event.Event.TheVariants.{Admin}
use Rattle.plan_semantics.specs.declared.order.Order.{Order}
use Rattle.plan_semantics.specs.Unrolling.{Unrolls, IsPrefix}
use Rattle.plan_semantics.specs.Orders.{sending}
use Rattle.plan_semantics.specs.Retargets.{HasNoRetarget}
use Rattle.reshard_theorem.specs.Reimports.{NoneReimported}
use Rattle.reshard_theorem.specs.Starts.{Reshard, Starts, cost_of}

-- a run from an open world that a legal plan drives, so far that this is left of it; its clients need not be honest
pub record IsDrivenRun (reshard : Reshard)
    (events : List Event) (last : World) (left : Remaining) : Type 0 where
  pub starts : Starts reshard
  pub run : Run reshard.first events last
  pub driven : DrivenTo reshard.plan events left

-- the administrator's calls are at most the plan's cost, of which only slots are counted that have been marked
abbrev pub WithinCost : Type 0
WithinCost = (reshard : Reshard) (events : List Event) (last : World) (left : Remaining)
    → IsDrivenRun reshard events last left
    → length (calls events) ≤ cost_of reshard events

-- a node that owns a slot and has its migrating mark gets no key of the slot that it lacks
abbrev pub GainsNone : World → World → Type 0
GainsNone w next = (node s : ℕ) (k : Key) → owner w node s ≡ node → migrating w node s ≢ None → slot_of k ≡ s
    → held w node k ≡ None → held next node k ≡ None

-- by none of the events
abbrev pub NeverGains : World → List Event → Type 0
NeverGains w [] = Unit {0}
NeverGains w (e ∷ es) = GainsNone w (after w e) × NeverGains (after w e) es

abbrev pub SourceGainsNothing : Type 0
SourceGainsNothing = (reshard : Reshard) (events : List Event) (last : World) (left : Remaining)
    → IsDrivenRun reshard events last left → NeverGains reshard.first events

-- ---- the command that continues

-- the administrator's event by which the world continues
abbrev pub by_order : World → Order → Event
by_order w o = Admin o.node o.command (admin_reply w o.node o.command)

-- the next command goes to a node of the world, its event leaves the run driven, and no other call would
pub record GoesOn (plan : List PlanCommand) (events : List Event) (last : World) (left : Remaining) : Type 0 where
  pub order : Order
  pub is_next : sending left.rest left.listed ≡ Some order
  pub there : order.node < length last.nodes
  pub more : Remaining
  pub driven : DrivenTo plan (events ++ by_order last order ∷ []) more
  pub only : (c : AdminCall) → IsPrefix plan (calls events ++ c ∷ [])
      → (c.node ≡ order.node) × (c.command ≡ order.command)

abbrev pub SomeCommandGoesOn : Type 0
SomeCommandGoesOn = (reshard : Reshard) (events : List Event) (last : World) (left : Remaining)
    → IsDrivenRun reshard events last left → NoRefusal (calls events)
    → (Unrolls reshard.plan (calls events) → ⊥) → GoesOn reshard.plan events last left

-- the calls of a plan that is not carried out whole are fewer than its cost, of which a slot counts that the next
-- command marks
abbrev pub StaysBelowCost : Type 0
StaysBelowCost = (reshard : Reshard) (events : List Event) (last : World) (left : Remaining)
    → IsDrivenRun reshard events last left → NoRefusal (calls events)
    → (Unrolls reshard.plan (calls events) → ⊥)
    → (order : Order) × (sending left.rest left.listed ≡ Some order)
    × (length (calls events)
    < cost_of reshard (events ++ by_order last order ∷ []))

-- where no slot has one node as the target twice, each ASK stands
abbrev pub AsksStand : Type 0
AsksStand = (reshard : Reshard) (events : List Event) (last : World) (left : Remaining)
    → IsDrivenRun reshard events last left → HasNoRetarget reshard.plan reshard.phases
    → NoneReimported reshard.first events
