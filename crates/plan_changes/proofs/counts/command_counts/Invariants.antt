use Rattle.std.proofs.Common.{◌≡◌, take}
use Rattle.plan_changes.specs.Counts.{counts_of}
use Rattle.plan_changes.proofs.counts.command_counts.Given as goal

abbrev pub invariant-loop-command : goal.invariant-loop-command
invariant-loop-command l = l.counts ≡ counts_of (take l.command-index l.commands)
