use Rattle.std.proofs.Common.{◌≡◌, fold, take}
use Rattle.plan_changes.specs.Batches.{most_with}
use Rattle.plan_changes.proofs.batches.most_batch.Given as goal

abbrev pub invariant-loop-command : goal.invariant-loop-command
invariant-loop-command l = l.most ≡ fold most_with 0 (take l.command-index l.commands)
