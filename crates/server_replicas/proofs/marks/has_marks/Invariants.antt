use Rattle.std.proofs.Common.{◌≡◌, ◌<◌, ℕ, false}
use Rattle.cluster_views.specs.Surveying.{has_mark}
use Rattle.server_replicas.proofs.marks.has_marks.Given as goal

-- the node has no mark of the slots before
abbrev pub invariant-loop-number : goal.invariant-loop-number
invariant-loop-number l = (s : ℕ) → s < l.number → has_mark l.survey s l.node ≡ false
