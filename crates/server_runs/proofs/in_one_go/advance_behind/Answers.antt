use Rattle.std.proofs.Common.{sym}
use Rattle.plan_runner.specs.Advancing.{plan_of}
use Rattle.plan_semantics.specs.Orders.{sending}
use Rattle.server_runs.proofs.Stepping.{first_taken}
use Rattle.server_runs.proofs.in_one_go.advance_behind.Goals as goal

pub returns-clause-advances : goal.returns-clause-advances
returns-clause-advances g c =
    c.tell_others.ensures.advances c.args.plan.progress (sym c.cost_so_far-spent.ensures)
    (first_taken c.args.plan.progress c.args.owned.now c.in-Some.node c.in-Ok.told.items c.take_told-ahead.new.told.items
    c.as_slice.result.now (plan_of c.take.result) (plan_of c.take_told-ahead.result) c.in-Some.ensures.next
    c.in-Ok.ensures.items c.take.ensures.state c.take_told-ahead.ensures.took c.as_slice.ensures.value)
