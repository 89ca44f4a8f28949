-- A plan that runs on after a reply: what is left of it is what the call spelt.
use Rattle.std.specs.Prelude.{◌≡◌, [], ◌∷◌, Some, None}
use Rattle.cluster_admin.specs.declared.admin.AdminReply.{AdminReply}
use Rattle.cluster_admin.specs.declared.call.AdminCall.{AdminCall}
use Rattle.plan_semantics.specs.declared.order.Order.{Order}
use Rattle.plan_runner.specs.declared.plan_state.PlanState.TheVariants.{Running, Done, Stopped}
use Rattle.plan_semantics.specs.Driving.{Spells, called}
use Rattle.plan_runner.specs.Finishing.{IsOpen}
use Rattle.plan_semantics.specs.Orders.{sending}
use Rattle.plan_runner.specs.PlanStates.{plan_after}
use Rattle.plan_runner.specs.ProgressView.{Progress, left_of}
use Rattle.plan_runner.specs.Advancing.{waits, Goes}

abbrev pub TakingSpells : Type 0
TakingSpells = (p q : Progress) (o : Order) (reply : AdminReply) → IsOpen p.rest p.listed
    → sending p.rest p.listed ≡ Some o → plan_after (waits p) reply ≡ Running q
    → Spells (left_of p) (called o.node o.command reply) (left_of q) × IsOpen q.rest q.listed
