use Rattle.std.proofs.Common.{◌≡◌, take}
use Rattle.cluster_survey.specs.Masters.{left_out}
use Rattle.cluster_survey.proofs.masters.left_out_in.Given as goal

-- those of the lines before
abbrev pub invariant-loop-line : goal.invariant-loop-line
invariant-loop-line l = l.servers.items ≡ left_out (take l.line-index l.lines)
