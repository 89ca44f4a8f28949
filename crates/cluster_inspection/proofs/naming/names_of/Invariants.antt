use Rattle.std.proofs.Common.{◌≡◌}
use Rattle.cluster_inspection.specs.Naming.{names_below}
use Rattle.cluster_inspection.proofs.naming.names_of.Given as goal

-- the nodes before, as far as they are mentioned
abbrev pub invariant-loop-number : goal.invariant-loop-number
invariant-loop-number l = l.names ≡ names_below l.book l.lines l.number
