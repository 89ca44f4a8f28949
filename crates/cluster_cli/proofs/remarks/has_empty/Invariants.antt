use Rattle.std.proofs.Common.{◌≡◌}
use Rattle.cluster_cli.specs.Remarks.{has_empty}
use Rattle.cluster_cli.proofs.remarks.has_empty.Given as goal

abbrev pub invariant-loop-number : goal.invariant-loop-number
invariant-loop-number l = l.found ≡ has_empty l.number l.owners.owners
