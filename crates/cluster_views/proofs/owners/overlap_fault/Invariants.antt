use Rattle.std.proofs.Common.{◌≡◌, ◌+◌, take}
use Rattle.std.specs.List.{sum_by}
use Rattle.cluster_views.specs.Views.{listed}
use Rattle.cluster_views.proofs.owners.overlap_fault.Given as goal

-- what is left, and what the lines before list, are all slots
abbrev pub invariant-loop-line : goal.invariant-loop-line
invariant-loop-line l = l.left + sum_by listed (take l.line-index l.lines) ≡ 16384
