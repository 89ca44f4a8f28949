-- What holds of every run that a plan drives and whose clients are honest.
use Rattle.std.specs.Prelude.{◌≡◌, ◌≢◌, ℕ, List, [], ◌++◌, length, Option, None}
use Rattle.std.specs.FinMap.{get}
use Rattle.store_commands.specs.Store.{Key, Store}
use Rattle.cluster_world.specs.Worlds.{World, held}
use Rattle.cluster_world.specs.Steps.{Run}
use Rattle.cluster_world.specs.Serving.{served, replay_of, store_after}
use Rattle.cluster_world.specs.Cleanness.{Clean}
use Rattle.cluster_world.specs.declared.event.Event.{Event}
use Rattle.plan_language.specs.declared.plan_command.PlanCommand.{PlanCommand}
use Rattle.plan_semantics.specs.Plans.{Legal, IsFinal}
use Rattle.plan_semantics.specs.Driving.{Remaining, NoRefusal}
use Rattle.cluster_world.specs.AdminCalls.{calls}
use Rattle.plan_semantics.specs.Unrolling.{Unrolls, IsPrefix}
use Rattle.cluster_world.specs.Honesty.{Honest, past_of}
use Rattle.cluster_admin.specs.Phases.{Phases}
pub use Rattle.cluster_world.specs.Openness.{IsSplit}
use Rattle.cluster_world.specs.Openness.{Open}
use Rattle.reshard_theorem.specs.DrivenRuns.{IsDrivenRun}
use Rattle.reshard_theorem.specs.Starts.{Reshard, Starts}

-- each ASKING is earned, too
pub record IsHonestRun (reshard : Reshard)
    (events : List Event) (last : World) (left : Remaining) : Type 0 where
  pub drives : IsDrivenRun reshard events last left
  pub honest : Honest reshard.first reshard.before events

-- no administrative reply is a refusal
abbrev pub NoCommandRefused : Type 0
NoCommandRefused = (reshard : Reshard) (events : List Event) (last : World) (left : Remaining)
    → IsHonestRun reshard events last left → NoRefusal (calls events)

-- the replies that were served are those of one undivided store
abbrev pub RepliesReplay : Type 0
RepliesReplay = (reshard : Reshard) (events : List Event) (last : World) (left : Remaining)
    → IsHonestRun reshard events last left → served events ≡ replay_of reshard.store (served events)

-- all nodes together hold what that store holds
abbrev pub OneStore : Type 0
OneStore = (reshard : Reshard) (events : List Event) (last : World) (left : Remaining)
    → IsHonestRun reshard events last left → IsSplit last (store_after reshard.store (served events))

-- a plan that was carried out whole leaves a clean world under its final owners, with that store
abbrev pub CleanEnd : Type 0
CleanEnd = (reshard : Reshard) (final : List ℕ) (events : List Event)
    (last : World) (left : Remaining)
    → IsHonestRun reshard events last left → Unrolls reshard.plan (calls events)
    → IsFinal reshard.plan reshard.phases final → Clean last final (store_after reshard.store (served events))

-- Where clients are honest, no refused command has to be ruled out: a run whose administrator's calls are a prefix of
-- an unrolling is driven
abbrev pub PrefixesAreDriven : Type 0
PrefixesAreDriven = (reshard : Reshard) (events : List Event) (last : World)
    → Starts reshard → Run reshard.first events last
    → IsPrefix reshard.plan (calls events) → Honest reshard.first reshard.before events
    → (left : Remaining) × IsHonestRun reshard events last left

-- at each moment: the events so far are such a run, too
abbrev pub PrefixesAreHonestRuns : Type 0
PrefixesAreHonestRuns = (reshard : Reshard)
    (so_far more : List Event) (last : World) (left : Remaining)
    → IsHonestRun reshard (so_far ++ more) last left
    → (now : World) × (left : Remaining) × IsHonestRun reshard so_far now left × Run now more last

-- A run may be stopped anywhere: it leaves an open world, with what was asked before and in the run
abbrev pub LeavesOpen : Type 0
LeavesOpen = (reshard : Reshard) (events : List Event) (last : World) (left : Remaining)
    → IsHonestRun reshard events last left
    → (now : Phases) × Open last now (store_after reshard.store (served events)) (past_of reshard.before events)
