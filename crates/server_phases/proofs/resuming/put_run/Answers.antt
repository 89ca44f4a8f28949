use Rattle.std.proofs.Common.{◌+◌, ◌-◌}
use Rattle.server_phases.proofs.Moved.{adds_run, run_total, too_long}
use Rattle.server_phases.proofs.resuming.put_run.Goals as goal

pub returns-then-count-limits-clause-adds : goal.returns-then-count-limits-clause-adds
returns-then-count-limits-clause-adds c =
    too_long c.args.plan.now c.limits-limits.result c.args.total.now c.count.result c.args.first c.args.last c.args.ends.now.source
    c.args.ends.now.target c.args.ends.now.batch c.limits-limits.ensures c.requires.total c.count.ensures.value
    c.if-count-limits.true

pub returns-clause-adds : goal.returns-clause-adds
returns-clause-adds c n =
    adds_run n c.args.plan.now c.push.new.self c.args.first c.args.last c.args.ends.now.source c.args.ends.now.target
    c.args.ends.now.batch c.in_ok-push.ensures.ok

pub returns-clause-total : goal.returns-clause-total
returns-clause-total c =
    run_total c.args.plan.now c.push.new.self c.limits-limits.result c.args.total.now c.count.result c.args.first c.args.last
    c.args.ends.now.source c.args.ends.now.target c.args.ends.now.batch c.limits-limits.ensures c.requires.total
    c.count.ensures.value c.in_ok-push.ensures.ok
