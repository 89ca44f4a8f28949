-- The headline, where all ASKING comes from clients that follow redirections: nothing is supposed of clients but that.
use Rattle.std.specs.Prelude.{◌≡◌, ℕ, ◌≤◌, List, [], length}
use Rattle.cluster_world.specs.Worlds.{World}
use Rattle.cluster_world.specs.Steps.{Run}
use Rattle.cluster_world.specs.declared.event.Event.{Event}
use Rattle.reshard_theorem.specs.Driven.{Driven}
use Rattle.plan_semantics.specs.Driving.{Remaining}
use Rattle.plan_semantics.specs.Retargets.{HasNoRetarget}
use Rattle.reshard_theorem.specs.Starts.{Reshard, Starts}
use Rattle.reshard_theorem.specs.DrivenRuns.{IsDrivenRun}
use Rattle.reshard_theorem.specs.Headline.{Headline}
use Rattle.redirect_client.specs.HonestClients.{AllAsk, AsksByClients}

-- a run so far of a legal plan, as the headline supposes it, with such clients; nothing was asked before
pub record IsRunOfClients (reshard : Reshard) (events : List Event) (last : World) : Type 0 where
  pub starts : Starts reshard
  pub fresh : reshard.before ≡ []
  pub run : Run reshard.first events last
  pub driven : Driven reshard.plan events
  pub clients : AsksByClients reshard.first.base_port events

abbrev pub HeadlineOfClients : Type 0
HeadlineOfClients = (reshard : Reshard) (events : List Event) (last : World)
    → IsRunOfClients reshard events last → Headline reshard events last

-- where no slot has one node as the target twice, clients that follow redirections are such clients, however long they
-- wait with the send that follows an ASK
abbrev pub ClientsMayWait : Type 0
ClientsMayWait = (reshard : Reshard) (events : List Event) (last : World) (left : Remaining)
    → IsDrivenRun reshard events last left → HasNoRetarget reshard.plan reshard.phases
    → reshard.first.base_port ≤ 65528 → length reshard.first.nodes ≤ 255
    → AllAsk (λ slot node e. Unit {0}) reshard.first.base_port events → AsksByClients reshard.first.base_port events
