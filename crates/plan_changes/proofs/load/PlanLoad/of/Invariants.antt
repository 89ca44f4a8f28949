use Rattle.std.proofs.Common.{ℕ, length}
use Rattle.plan_language.specs.Lines.{plan_commands}
use Rattle.plan_changes.proofs.Loaded.{Carries}
use Rattle.plan_changes.proofs.load.PlanLoad.of.Given as goal

abbrev pub invariant-loop-command : goal.invariant-loop-command
invariant-loop-command l = Carries l.keys (plan_commands l.fn.nodes l.fn.plan.lines) l.commands.left l.load

abbrev pub decreases-loop-command : goal.decreases-loop-command
decreases-loop-command l = length l.commands.left
