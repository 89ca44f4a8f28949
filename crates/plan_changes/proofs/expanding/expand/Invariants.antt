use Rattle.std.proofs.Common.{◌≡◌, ◌++◌, length}
use Rattle.plan_language.specs.Lines.{plan_commands}
use Rattle.plan_changes.proofs.expanding.expand.Given as goal

abbrev pub invariant-loop-command : goal.invariant-loop-command
invariant-loop-command l = l.commands.items ++ l.left.left ≡ plan_commands l.nodes l.plan.lines

abbrev pub decreases-loop-command : goal.decreases-loop-command
decreases-loop-command l = length l.left.left
