use Rattle.std.proofs.Common.{◌≡◌, drop}
use Rattle.cluster_views.specs.Numbers.{first_given}
use Rattle.cluster_views.specs.Views.{master_fault}
use Rattle.cluster_views.proofs.knowing.masters_fault.Given as goal

-- no line before has a fault
abbrev pub invariant-loop-line : goal.invariant-loop-line
invariant-loop-line l = first_given (master_fault l.book l.node) l.lines ≡ first_given (master_fault l.book l.node) (drop l.line-index l.lines)
