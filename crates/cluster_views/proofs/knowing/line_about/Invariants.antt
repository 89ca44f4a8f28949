use Rattle.std.proofs.Common.{◌≡◌, drop}
use Rattle.cluster_views.specs.Views.{line_about}
use Rattle.cluster_views.proofs.knowing.line_about.Given as goal

-- no line before is the server's
abbrev pub invariant-loop-line : goal.invariant-loop-line
invariant-loop-line l = line_about l.server l.lines ≡ line_about l.server (drop l.line-index l.lines)
