use Rattle.std.proofs.Common.{◌≡◌, fold, take}
use Rattle.plan_changes.specs.Finals.{told}
use Rattle.plan_changes.proofs.finals.final_owners.Given as goal

abbrev pub invariant-loop-command : goal.invariant-loop-command
invariant-loop-command l = l.owners.items ≡ fold told l.before (take l.command-index l.commands)
