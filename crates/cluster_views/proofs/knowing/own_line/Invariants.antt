use Rattle.std.proofs.Common.{◌≡◌, drop}
use Rattle.cluster_views.specs.Views.{own_line}
use Rattle.cluster_views.proofs.knowing.own_line.Given as goal

-- no line before is the server's own
abbrev pub invariant-loop-line : goal.invariant-loop-line
invariant-loop-line l = own_line l.lines ≡ own_line (drop l.line-index l.lines)
