use Rattle.std.proofs.Common.{◌≡◌, ◌<◌, ℕ}
use Rattle.cluster_views.specs.Rows.{kept_at}
use Rattle.cluster_views.proofs.Closed.{closed_kept}
use Rattle.cluster_views.proofs.server_survey.ServerSurvey.is_closed.Given as goal

-- the rows before are closed
abbrev pub invariant-loop-row : goal.invariant-loop-row
invariant-loop-row l = (n : ℕ) → n < l.row-index → kept_at l.row-items n ≡ closed_kept l.owners
