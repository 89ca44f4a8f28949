-- Runs with no client between the steps of a plan.
use Rattle.std.specs.Prelude.{◌≡◌, ℕ, ◌+◌, ◌*◌, ◌<◌, List, [], ◌∷◌, length, Option}
use Rattle.store_commands.specs.Store.{Key, Store}
use Rattle.slot_keyspace.specs.Listing.{keys_of}
use Rattle.cluster_world.specs.Worlds.{World}
use Rattle.cluster_world.specs.Cleanness.{Clean}
use Rattle.cluster_world.specs.Steps.{Run}
use Rattle.cluster_world.specs.declared.event.Event.{Event}
use Rattle.cluster_world.specs.declared.event.Event.TheVariants.{Client, Look, Admin}
use Rattle.plan_language.specs.declared.plan_command.PlanCommand.{PlanCommand}
use Rattle.plan_language.specs.declared.plan_command.PlanCommand.TheVariants as planned
use Rattle.cluster_admin.specs.Phases.{Phases}
use Rattle.cluster_admin.specs.Phases as phase
use Rattle.cluster_world.specs.Openness.{Open}
use Rattle.plan_semantics.specs.Plans.{Legal, IsFinal}
use Rattle.plan_semantics.specs.Driving.{Remaining, NoRefusal}
use Rattle.cluster_world.specs.AdminCalls.{calls}
use Rattle.plan_semantics.specs.Unrolling.{Unrolls}
use Rattle.plan_semantics.specs.Costs.{rounds}
use Rattle.reshard_theorem.specs.DrivenRuns.{IsDrivenRun}
use Rattle.reshard_theorem.specs.Starts.{Reshard, Starts, cost_of}

-- no client's command; looks change nothing and may stand
abbrev pub NoClients : List Event → Type 0
NoClients [] = Unit {0}
NoClients (Client seat n asking c r ∷ es) = ⊥
NoClients (Look seat n r ∷ es) = NoClients es
NoClients (Admin n c r ∷ es) = NoClients es

-- no command was refused, the calls are exactly the cost, and the world is clean under the final owners with the same
-- store
pub record IsQuietReshard (reshard : Reshard) (events : List Event) (last : World) : Type 0 where
  pub no_refusal : NoRefusal (calls events)
  pub cost : length (calls events) ≡ cost_of reshard events
  pub clean : (final : List ℕ) → IsFinal reshard.plan reshard.phases final → Clean last final reshard.store

-- from an open world, by a legal plan whose whole unrolling the calls are
abbrev pub QuietReshard : Type 0
QuietReshard = (reshard : Reshard) (events : List Event) (last : World)
    → Starts reshard → Run reshard.first events last
    → Unrolls reshard.plan (calls events) → NoClients events
    → IsQuietReshard reshard events last

-- ---- what a quiet plan costs, by the store alone

-- each drain finds all keys of its slot that the store has
abbrev pub quiet_cost : Store → List PlanCommand → ℕ
quiet_cost store [] = 0
quiet_cost store (planned.Drain s m t b ∷ plan) =
    (2 * rounds b (length (keys_of store s)) + 1) + quiet_cost store plan
quiet_cost store (c ∷ plan) = 1 + quiet_cost store plan

-- every slot is closed
abbrev pub AreClosed : Phases → Type 0
AreClosed phases = (s : ℕ) → (owner : ℕ) × (phases s ≡ phase.Closed owner)

-- from a clean world a plan that is carried out takes that
abbrev pub QuietCost : Type 0
QuietCost = (reshard : Reshard) (events : List Event) (last : World)
    → Starts reshard → AreClosed reshard.phases → Run reshard.first events last
    → Unrolls reshard.plan (calls events) → NoClients events
    → length (calls events) ≡ quiet_cost reshard.store reshard.plan

-- and from any open one fewer calls than that, as long as it is not carried out
abbrev pub StaysBelowQuietCost : Type 0
StaysBelowQuietCost = (reshard : Reshard) (events : List Event) (last : World) (left : Remaining)
    → IsDrivenRun reshard events last left → NoClients events
    → (Unrolls reshard.plan (calls events) → ⊥)
    → length (calls events) < quiet_cost reshard.store reshard.plan
