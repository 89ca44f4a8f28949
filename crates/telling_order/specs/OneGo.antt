-- A run that stopped while the other nodes of a slot were told of its owner in one go: some of them were told, in any
-- order. It is a run of a plan that tells these first, in the order in which they were told.
use Rattle.std.specs.Prelude.{◌≡◌, ℕ, true, not, ◌==◌, List, [], ◌∷◌, ◌++◌, filter, map}
use Rattle.std.specs.List.{AllByRecursion}
use Rattle.cluster_admin.specs.declared.admin.AdminCommand.TheVariants.{SetNode}
use Rattle.cluster_world.specs.Honesty.{Honest, past_of}
use Rattle.cluster_world.specs.Openness.{Open}
use Rattle.cluster_admin.specs.Phases.{Phases, IsDistinct, among}
use Rattle.cluster_world.specs.Servers.{ServerRun}
use Rattle.cluster_world.specs.Serving.{served, store_after}
use Rattle.cluster_world.specs.Worlds.{World}
use Rattle.cluster_admin.specs.declared.call.AdminCall.{AdminCall}
use Rattle.cluster_world.specs.declared.event.Event.{Event}
use Rattle.plan_language.specs.declared.plan_command.PlanCommand.{PlanCommand}
use Rattle.cluster_world.specs.AdminCalls.{calls}
use Rattle.plan_semantics.specs.Plans.{tell}
use Rattle.reshard_theorem.specs.Starts.{Reshard, Starts}
use Rattle.plan_semantics.specs.Unrolling.{Unrolls}
use Rattle.reshard_theorem.specs.ServerHeadline.{IsServerRunOf, ServerHeadline}
use Rattle.telling_order.specs.AnyOrder.{IsSourceTold, TellsInAnotherOrder, TellsInAnyOrder}
use Rattle.telling_order.specs.Headline.{AreAsGood, reordered}

-- the nodes that the calls went to, in their order
abbrev pub nodes_called : List AdminCall → List ℕ
nodes_called cs = map (λ c. c.node) cs

abbrev pub without : ℕ → List ℕ → List ℕ
without m nodes = filter (λ n. not (n == m)) nodes

-- the nodes that are left, in their order, once these were told
abbrev pub still_left : (told nodes : List ℕ) → List ℕ
still_left [] nodes = nodes
still_left (m ∷ told) nodes = still_left told (without m nodes)

-- Each of the calls tells one of the nodes of the target, whatever it replied, and no node is told twice
pub record AreToldInOneGo (s target : ℕ) (nodes : List ℕ) (cs : List AdminCall) : Type 0 where
  pub each : AllByRecursion (λ c. (c.command ≡ SetNode s target) × (among c.node nodes ≡ true)) cs
  pub once : IsDistinct (nodes_called cs)

-- The plan was carried out up to where the source was told, and then any of the nodes that it tells next were told:
-- some, all of them, or none
pub record IsStoppedInOneGo (phases : Phases) (plan : List PlanCommand) (events : List Event) : Type 0 where
  pub s : ℕ
  pub target : ℕ
  pub front : List PlanCommand
  pub back : List PlanCommand
  pub nodes : List ℕ
  pub told : IsSourceTold phases front s target
  pub is : plan ≡ front ++ (tell s target nodes ++ back)
  pub before : List AdminCall
  pub in_one_go : List AdminCall
  pub calls_are : calls events ≡ before ++ in_one_go
  pub carried_out : Unrolls front before
  pub are_told : AreToldInOneGo s target nodes in_one_go

-- the plan that tells first whom the run told, in its order, and then the nodes that are left
abbrev pub as_told : (phases : Phases) (plan : List PlanCommand) (events : List Event)
    → IsStoppedInOneGo phases plan events → List PlanCommand
as_told phases plan events stop =
    let told = nodes_called stop.in_one_go in
    stop.front ++ (tell stop.s stop.target (told ++ still_left told stop.nodes) ++ stop.back)

-- The run is one of this other plan, which tells the same nodes in another order; the headline holds of it, with the
-- final owners and the cost of the plan itself, and the servers are open, so the rest can be resumed.
pub record HoldsInOneGo (reshard : Reshard) (plan other : List PlanCommand) (events : List Event) (last : World)
    : Type 0 where
  pub tells : TellsInAnotherOrder reshard.phases plan other
  pub is_run : IsServerRunOf (reordered reshard other) events last
  pub headline : ServerHeadline (reordered reshard other) events last
  pub as_good : AreAsGood reshard other events
  pub is_open : (now : Phases)
      × Open last now (store_after reshard.store (served events)) (past_of reshard.before events)

-- Whatever the nodes replied: that none refused is no premise, since it follows. This plan may itself be the one of the
-- reshard with nodes told in another order, as where nodes were told in one go before.
abbrev pub StopsInOneGo : Type 0
StopsInOneGo = (reshard : Reshard) (plan : List PlanCommand) (between : List (List PlanCommand))
    (events : List Event) (last : World)
    → Starts reshard → TellsInAnyOrder reshard.phases reshard.plan between plan
    → (stop : IsStoppedInOneGo reshard.phases plan events) → ServerRun reshard.first events last
    → Honest reshard.first reshard.before events
    → HoldsInOneGo reshard plan (as_told reshard.phases plan events stop) events last
