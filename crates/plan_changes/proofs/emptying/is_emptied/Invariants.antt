use Rattle.std.proofs.Common.{◌≡◌, length}
use Rattle.plan_language.specs.Lines.{plan_commands}
use Rattle.plan_changes.specs.Emptying.{is_emptied}
use Rattle.plan_changes.proofs.emptying.is_emptied.Given as goal

-- what is left tells the same as the whole
abbrev pub invariant-loop-command : goal.invariant-loop-command
invariant-loop-command l =
    is_emptied l.node (plan_commands l.fn.nodes l.fn.plan.lines) l.fn.slots ≡ is_emptied l.node l.commands.left l.left

abbrev pub decreases-loop-command : goal.decreases-loop-command
decreases-loop-command l = length l.commands.left
