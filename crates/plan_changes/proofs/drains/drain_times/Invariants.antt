use Rattle.std.proofs.Common.{take}
use Rattle.plan_changes.proofs.Drained.{Drained}
use Rattle.plan_changes.proofs.drains.drain_times.Given as goal

abbrev pub invariant-loop-command : goal.invariant-loop-command
invariant-loop-command l = Drained 16384 l.times.items (take l.command-index l.commands)
