-- What is seen of each slot: every run that a plan drives, what is reordered, and of each slot a beginning of its
-- calls. And any schedule of the slots is a run.
use Rattle.std.specs.Prelude.{◌≡◌, ◌⊎◌, ℕ, List, [], ◌∷◌, ◌++◌}
use Rattle.cluster_admin.specs.declared.call.AdminCall.{AdminCall}
use Rattle.cluster_world.specs.AdminCalls.{calls}
use Rattle.cluster_world.specs.Honesty.{Honest}
use Rattle.cluster_world.specs.Servers.{ServerRun}
use Rattle.cluster_world.specs.Worlds.{World}
use Rattle.cluster_world.specs.declared.event.Event.{Event}
use Rattle.plan_language.specs.declared.plan_command.PlanCommand.{PlanCommand}
use Rattle.plan_semantics.specs.Plans.{part}
use Rattle.plan_semantics.specs.Unrolling.{Unrolls}
use Rattle.reshard_theorem.specs.Driven.{Driven}
use Rattle.reshard_theorem.specs.Starts.{Reshard, Starts}
use Rattle.telling_order.specs.SeenCalls.{AreSeenInOneGo, AreSeenReordered}
use Rattle.slotwise_runs.specs.Headline.{IsSeenRun}
use Rattle.slotwise_runs.specs.Seen.{AreSeen, AreSeenOfEachSlot, of_slot, slot_called}

-- the calls of a plan in its own order
abbrev pub DrivenRunsAreSeen : Type 0
DrivenRunsAreSeen = (plan : List PlanCommand) (first last : World) (events : List Event) → ServerRun first events last
    → Driven plan events → AreSeenOfEachSlot plan (calls events)

-- Of each slot a beginning of the calls that are seen, in whatever order with those of the others: so what was on its
-- way at once, one call of each slot at most, is seen in whatever order it comes, and so is any part of it.
abbrev pub BeginningsAreSeen : Type 0
BeginningsAreSeen = (plan : List PlanCommand) (cs cs' : List AdminCall)
    → ((s : ℕ) → (later : List AdminCall) × (of_slot s cs ≡ of_slot s cs' ++ later))
    → AreSeenOfEachSlot plan cs → AreSeenOfEachSlot plan cs'

-- the calls of a plan in another order of the nodes that are told once the source was, and where it stopped any of them
abbrev pub ReorderedCallsAreSeen : Type 0
ReorderedCallsAreSeen = (reshard : Reshard) (events : List Event) (last : World) → Starts reshard
    → ServerRun reshard.first events last → Honest reshard.first reshard.before events
    → AreSeenReordered reshard.plan (calls events) ⊎ AreSeenInOneGo reshard.plan (calls events)
    → AreSeen reshard.phases reshard.plan (calls events)

-- After these calls, one call for each slot of the schedule, in its order. A slot that is at its end has none.
abbrev pub IsScheduled : List PlanCommand → (before : List AdminCall) → (schedule : List ℕ) → List AdminCall → Type 0
IsScheduled plan before [] cs = cs ≡ []
IsScheduled plan before (s ∷ schedule) cs =
    (Unrolls (part plan s) (of_slot s before) × IsScheduled plan before schedule cs)
    ⊎ ((c : AdminCall) × (more : List AdminCall) × (cs ≡ c ∷ more) × (slot_called c.command ≡ s)
    × IsScheduled plan (before ++ c ∷ []) schedule more)

-- Where a plan starts, each schedule is that of a run: so there are runs in which the drains of several slots
-- interleave, which no order of the plan's commands gives.
abbrev pub EachScheduleIsRun : Type 0
EachScheduleIsRun = (reshard : Reshard) → Starts reshard → (schedule : List ℕ)
    → (events : List Event) × (last : World) × (seen : IsSeenRun reshard events last)
    × IsScheduled reshard.plan [] schedule (calls events)
