-- The calls that servers saw of a program that tells the other nodes of a slot in one go: it sends to all of them, and
-- then reads all of their replies. Where each replies, the calls are those of the plan in another order; where it
-- stops, some of the nodes that come next were told, in any order.
use Rattle.std.specs.Prelude.{◌≡◌, ◌≢◌, ◌⊎◌, ℕ, List, [], ◌∷◌, ◌++◌}
use Rattle.cluster_admin.specs.declared.admin.AdminCommand.TheVariants.{SetNode}
use Rattle.cluster_world.specs.Honesty.{Honest, past_of}
use Rattle.cluster_world.specs.Openness.{Open}
use Rattle.cluster_admin.specs.Phases.{Phases}
use Rattle.cluster_world.specs.Servers.{ServerRun}
use Rattle.cluster_world.specs.Serving.{served, store_after}
use Rattle.cluster_world.specs.Worlds.{World}
use Rattle.cluster_admin.specs.declared.call.AdminCall.{AdminCall}
use Rattle.cluster_world.specs.declared.event.Event.{Event}
use Rattle.plan_language.specs.declared.plan_command.PlanCommand.{PlanCommand}
use Rattle.cluster_world.specs.AdminCalls.{calls}
use Rattle.plan_semantics.specs.Plans.{tell}
use Rattle.reshard_theorem.specs.Starts.{Reshard, Starts}
use Rattle.plan_semantics.specs.Unrolling.{IsPrefix, Unrolls}
use Rattle.reshard_theorem.specs.ServerHeadline.{IsServerRunOf, ServerHeadline}
use Rattle.telling_order.specs.AnyOrder.{TellsInAnyOrder}
use Rattle.telling_order.specs.Headline.{AreAsGood, reordered}
use Rattle.telling_order.specs.OneGo.{AreToldInOneGo}
use Rattle.plan_semantics.specs.Tellings.{TellsAnother, LastTells}

-- ---- calls in another order

-- Two calls that tell nodes of a slot's owner stand the other way round: side by side, after one that told another
-- node than the owner. Whatever they replied: that none refused is no premise, since it follows.
pub record AreSwapped (cs cs' : List AdminCall) : Type 0 where
  pub s : ℕ
  pub target : ℕ
  pub before : List AdminCall
  pub told : AdminCall
  pub first : AdminCall
  pub second : AdminCall
  pub after : List AdminCall
  pub is : cs ≡ before ++ told ∷ first ∷ second ∷ after
  pub other_is : cs' ≡ before ++ told ∷ second ∷ first ∷ after
  pub told_tells : TellsAnother s target told
  pub first_tells : first.command ≡ SetNode s target
  pub second_tells : second.command ≡ SetNode s target
  pub apart : first.node ≢ second.node

-- any number of times, by these lists between the two
abbrev pub AreReordered : List AdminCall → List (List AdminCall) → List AdminCall → Type 0
AreReordered cs [] cs' = cs' ≡ cs
AreReordered cs (next ∷ more) cs' = AreSwapped cs next × AreReordered next more cs'

-- ---- what servers saw

-- a part, from the beginning, of calls of the plan in another order
pub record AreSeenReordered (plan : List PlanCommand) (seen : List AdminCall) : Type 0 where
  -- in the plan's own order
  pub sent : List AdminCall
  pub prefix : IsPrefix plan sent
  pub between : List (List AdminCall)
  pub other : List AdminCall
  pub reorders : AreReordered sent between other
  pub later : List AdminCall
  pub is : other ≡ seen ++ later

-- After such calls, any of the nodes that the plan tells next were told in one go, in any order and whatever they
-- replied
pub record AreSeenInOneGo (plan : List PlanCommand) (seen : List AdminCall) : Type 0 where
  pub s : ℕ
  pub target : ℕ
  pub front : List PlanCommand
  pub back : List PlanCommand
  pub nodes : List ℕ
  pub is : plan ≡ front ++ (tell s target nodes ++ back)
  -- in the plan's own order
  pub before : List AdminCall
  pub carried_out : Unrolls front before
  pub last : LastTells s target before
  pub between : List (List AdminCall)
  pub before' : List AdminCall
  pub reorders : AreReordered before between before'
  pub in_one_go : List AdminCall
  pub are_told : AreToldInOneGo s target nodes in_one_go
  pub seen_is : seen ≡ before' ++ in_one_go

-- ---- what holds of them

-- The run is one of a plan that tells the same nodes in another order. The headline holds of it, with the final owners
-- and the cost of the plan itself, and the servers are open, so the rest can be resumed.
pub record HoldsInAnyOrder (reshard : Reshard) (events : List Event) (last : World) : Type 0 where
  pub other : List PlanCommand
  pub between : List (List PlanCommand)
  pub tells : TellsInAnyOrder reshard.phases reshard.plan between other
  pub is_run : IsServerRunOf (reordered reshard other) events last
  pub headline : ServerHeadline (reordered reshard other) events last
  pub as_good : AreAsGood reshard other events
  pub is_open : (now : Phases)
      × Open last now (store_after reshard.store (served events)) (past_of reshard.before events)

abbrev pub SeenCallsHaveTheHeadline : Type 0
SeenCallsHaveTheHeadline = (reshard : Reshard) (events : List Event) (last : World) → Starts reshard
    → ServerRun reshard.first events last → Honest reshard.first reshard.before events
    → AreSeenReordered reshard.plan (calls events) ⊎ AreSeenInOneGo reshard.plan (calls events)
    → HoldsInAnyOrder reshard events last
