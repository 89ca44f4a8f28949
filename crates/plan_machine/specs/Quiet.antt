-- A plan that is run over a world with no client between its steps.
use Rattle.std.specs.Prelude.{◌≡◌, ◌⊎◌, ℕ, ◌≤◌, List, [], ◌∷◌, ◌++◌, length}
use Rattle.store_commands.specs.Store.{Store}
use Rattle.key_slots.specs.Owners.{Owners}
use Rattle.cluster_world.specs.Worlds.{World}
use Rattle.cluster_world.specs.Steps.{by_call}
use Rattle.cluster_world.specs.Ports.{IsAdminFault}
use Rattle.cluster_world.specs.Cleanness.{Clean, IsUnmarked}
use Rattle.cluster_admin.specs.declared.call.AdminCall.{AdminCall}
use Rattle.cluster_world.specs.declared.event.Event.{Event}
use Rattle.cluster_world.specs.declared.event.Event.TheVariants.{Admin}
use Rattle.plan_semantics.specs.Plans.{IsFinal}
use Rattle.reshard_theorem.specs.Starts.{Reshard, Starts, cost_of}
use Rattle.reshard_theorem.specs.QuietRuns.{AreClosed, quiet_cost}
use Rattle.plan_runner.specs.ProgressView.{Progress, at_start}
use Rattle.plan_runner.specs.Advancing.{Runs}
use Rattle.plan_runner.specs.declared.plan_state.PlanState.{PlanState}
use Rattle.plan_runner.specs.declared.plan_state.PlanState.TheVariants.{Done, Stopped}
use Rattle.plan_runner.specs.declared.stop_cause.StopCause.TheVariants as causes

-- the events of the administrator's calls
abbrev pub events_of : List AdminCall → List Event
events_of [] = []
events_of (c ∷ cs) = Admin c.node c.command c.reply ∷ events_of cs

-- All of the plan was done by exactly its cost, which from a clean world is told by the store alone, and the world is
-- clean under the final owners with the same store
pub record IsDoneQuietly (reshard : Reshard) (calls : List AdminCall) (last : World) (end : PlanState) : Type 0 where
  pub end_is : end ≡ Done (length calls)
  pub cost : length calls
      ≡ cost_of reshard (events_of calls)
  pub quiet : AreClosed reshard.phases → length calls ≡ quiet_cost reshard.store reshard.plan
  pub clean : (final : List ℕ) → IsFinal reshard.plan reshard.phases final → Clean last final reshard.store

-- A plan came to this end over a world. If that was open, and the plan legal for its phases, not yet begun, and allowed
-- to take what the store says that it costs, then it is done so, or it met out of memory
abbrev pub EndsQuietly : (first last : World) → Progress → (before after : List AdminCall) → PlanState → Type 0
EndsQuietly first last p before after end = (reshard : Reshard) (most : ℕ) → reshard.first ≡ first
    → p ≡ at_start (length first.nodes) reshard.plan most → Starts reshard
    → quiet_cost reshard.store reshard.plan ≤ most
    → (calls : List AdminCall) × (after ≡ before ++ calls)
    × (IsDoneQuietly reshard calls last end ⊎ (end ≡ Stopped causes.Memory (length calls)))

abbrev pub RunsQuietly : Type 0
RunsQuietly = (first last : World) (p : Progress) (before after : List AdminCall) (end : PlanState)
    → Runs (record { moves = by_call; fails = IsAdminFault }) (record { port = first; calls = before })
    (record { port = last; calls = after }) p end
    → EndsQuietly first last p before after end

-- a clean world has the table for which it is clean, and no mark
abbrev pub CleanIsUnmarked : Type 0
CleanIsUnmarked = (w : World) (o : Owners) (store : Store) → length w.nodes ≡ o.nodes → Clean w o.owners store
    → IsUnmarked w o
