use Rattle.std.proofs.Common.{rules}
use Rattle.plan_changes.proofs.Drained.{drained_all, drained_more, drained_none}
use Rattle.plan_changes.proofs.drains.drain_times.Goals as goal

pub loop-command-init : goal.loop-command-init
loop-command-init c = drained_none 16384 c.in_ok-times.times.items c.in_ok-times.ensures

pub loop-command-preserved : goal.loop-command-preserved
loop-command-preserved c =
    drained_more 16384 c.loop-command.times.items c.count_drain.new.times.items c.args.commands.now c.loop-command.command-index c.command-item.result
    (search rules) c.command-item.is c.count_drain.ensures c.loop-command.invariant

pub returns-clause-width : goal.returns-clause-width
returns-clause-width c = c.loop-command.invariant.width

pub returns-clause-times : goal.returns-clause-times
returns-clause-times c =
    (drained_all 16384 c.loop-command.times.items c.args.commands.now c.loop-command.command-index (search rules) c.loop-command.invariant).counts
