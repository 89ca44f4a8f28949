use Rattle.cluster_views.proofs.Telling.{Tells}
use Rattle.cluster_views.proofs.surveying.told.Given as goal

-- the views before are fine, and these are their rows
abbrev pub invariant-loop-number : goal.invariant-loop-number
invariant-loop-number l = Tells l.book l.views l.number l.rows.items
