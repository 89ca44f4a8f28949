use Rattle.std.proofs.Common.{arith, rules}
use Rattle.plan_changes.proofs.OpenCounted.{most_by_phases}
use Rattle.plan_changes.proofs.Opened.{standing_all, standing_more, standing_none}
use Rattle.plan_changes.proofs.opening.most_open.Goals as goal

pub loop-command-init : goal.loop-command-init
loop-command-init c = standing_none c.args.nodes c.args.commands.now c.in_ok-lefts.lefts.items c.in_ok-lefts.ensures

pub loop-command-preserved : goal.loop-command-preserved
loop-command-preserved c =
    standing_more c.args.nodes c.args.commands.now c.loop-command.command-index c.command-item.result
    c.loop-command.lefts.items c.play-opened.new.lefts.items c.loop-command.opened c.loop-command.most
    c.play-opened.result c.greater-most.result (search rules) c.command-item.is c.play-opened.ensures.lefts
    c.play-opened.ensures.open_after c.greater-most.ensures c.loop-command.invariant

pub returns-clause-counted : goal.returns-clause-counted
returns-clause-counted c =
    standing_all c.args.nodes c.args.commands.now c.loop-command.command-index c.loop-command.lefts.items
    c.loop-command.opened c.loop-command.most (omega arith) c.loop-command.invariant

pub returns-clause-by_phases : goal.returns-clause-by_phases
returns-clause-by_phases c version owners legal =
    most_by_phases version c.args.nodes c.args.commands.now owners legal c.loop-command.most
    (standing_all c.args.nodes c.args.commands.now c.loop-command.command-index c.loop-command.lefts.items
    c.loop-command.opened c.loop-command.most (omega arith) c.loop-command.invariant)
