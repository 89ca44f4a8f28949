-- Runs that a plan drives: no other administrator sends a command.
use Rattle.std.specs.Prelude.{◌↔◌, List, Option}
use Rattle.store_commands.specs.Store.{Key}
use Rattle.cluster_world.specs.declared.event.Event.{Event}
use Rattle.plan_language.specs.declared.plan_command.PlanCommand.{PlanCommand}
use Rattle.plan_semantics.specs.Driving.{Remaining, StopsAtRefusal, whole, Spelled}
use Rattle.cluster_world.specs.AdminCalls.{calls}
use Rattle.plan_semantics.specs.Unrolling.{IsPrefix}

-- a run that the plan drives, so far that this is left of it
abbrev pub DrivenTo : List PlanCommand → List Event → Remaining → Type 0
DrivenTo plan es left = Spelled (whole plan) (calls es) left × StopsAtRefusal (calls es)

-- the administrator's calls are a prefix of an unrolling of the plan, and none follows a refused one
abbrev pub Driven : List PlanCommand → List Event → Type 0
Driven plan events = IsPrefix plan (calls events) × StopsAtRefusal (calls events)

-- the same step by step: the calls so far leave something of the plan
abbrev pub DrivenStepByStep : Type 0
DrivenStepByStep = (plan : List PlanCommand) (events : List Event)
    → Driven plan events ↔ ((left : Remaining) × DrivenTo plan events left)
