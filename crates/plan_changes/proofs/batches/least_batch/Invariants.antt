use Rattle.std.proofs.Common.{◌≡◌, None, fold, take}
use Rattle.plan_changes.specs.Batches.{least_with}
use Rattle.plan_changes.proofs.batches.least_batch.Given as goal

abbrev pub invariant-loop-command : goal.invariant-loop-command
invariant-loop-command l = l.least ≡ fold least_with None (take l.command-index l.commands)
