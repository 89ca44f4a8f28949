use Rattle.plan_changes.proofs.Opened.{Standing}
use Rattle.plan_changes.proofs.opening.most_open.Given as goal

abbrev pub invariant-loop-command : goal.invariant-loop-command
invariant-loop-command l = Standing l.nodes l.commands l.command-index l.lefts.items l.opened l.most
