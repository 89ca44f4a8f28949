-- The headline of a run in which other nodes are told in another order than the plan has them.
use Rattle.std.specs.Prelude.{◌≡◌, ℕ, List}
use Rattle.cluster_world.specs.Honesty.{Honest}
use Rattle.cluster_world.specs.Servers.{ServerRun}
use Rattle.cluster_world.specs.Steps.{Run}
use Rattle.cluster_world.specs.Worlds.{World}
use Rattle.cluster_world.specs.declared.event.Event.{Event}
use Rattle.plan_language.specs.declared.plan_command.PlanCommand.{PlanCommand}
use Rattle.reshard_theorem.specs.Driven.{Driven}
use Rattle.plan_semantics.specs.Plans.{IsFinal}
use Rattle.reshard_theorem.specs.Starts.{Reshard, Starts, cost_of}
use Rattle.reshard_theorem.specs.Headline.{Headline}
use Rattle.reshard_theorem.specs.ServerHeadline.{ServerHeadline}
use Rattle.telling_order.specs.AnyOrder.{TellsInAnyOrder}

-- the same start, and the plan in its other order
abbrev pub reordered : Reshard → List PlanCommand → Reshard
reordered reshard other = record reshard { plan = other }

-- the two cost the same in these events, and leave the same owners
pub record AreAsGood (reshard : Reshard) (other : List PlanCommand) (events : List Event) : Type 0 where
  pub cost : cost_of (reordered reshard other) events ≡ cost_of reshard events
  pub owners : (final : List ℕ) → IsFinal reshard.plan reshard.phases final → IsFinal other reshard.phases final

abbrev pub HeadlineInAnyOrder : Type 0
HeadlineInAnyOrder = (reshard : Reshard) (other : List PlanCommand) (between : List (List PlanCommand))
    (events : List Event) (last : World)
    → Starts reshard → TellsInAnyOrder reshard.phases reshard.plan between other → Run reshard.first events last
    → Driven other events → Honest reshard.first reshard.before events
    → Headline (reordered reshard other) events last × AreAsGood reshard other events

abbrev pub ServerHeadlineInAnyOrder : Type 0
ServerHeadlineInAnyOrder = (reshard : Reshard) (other : List PlanCommand) (between : List (List PlanCommand))
    (events : List Event) (last : World)
    → Starts reshard → TellsInAnyOrder reshard.phases reshard.plan between other
    → ServerRun reshard.first events last → Driven other events → Honest reshard.first reshard.before events
    → ServerHeadline (reordered reshard other) events last × AreAsGood reshard other events
