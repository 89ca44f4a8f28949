use Rattle.std.proofs.Common.{◌≡◌, ℕ, List, arith, false, subst}
use Rattle.cluster_admin.specs.Phases.{among}
use Rattle.plan_semantics.specs.Orders.{sending}
use Rattle.server_runs.proofs.Stepping.{puts_next}
use Rattle.server_runs.proofs.ahead.put_next.Goals as goal

pub returns-in-Some : goal.returns-in-Some
returns-in-Some c =
    puts_next (sending c.args.plan.now.progress.rest c.args.plan.now.progress.listed) c.args.nodes c.args.owned.now
    c.args.left c.args.told.now.items c.put.new.told.items c.in-Some.node c.put.result c.put.ensures c.requires
    (omega (arith, c.if-left-eq0.false)) c.in-Some.ensures.next c.in-Some.ensures.other c.in-Some.ensures.within
    (subst (λ (l : List ℕ). among c.in-Some.node l ≡ false) c.as_slice.ensures.value c.in-Some.ensures.new)
