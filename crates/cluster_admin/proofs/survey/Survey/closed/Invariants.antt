use Rattle.std.proofs.Common.{◌≡◌, length}
use Rattle.cluster_admin.specs.Surveys.{closed_row}
use Rattle.cluster_admin.proofs.Surveyed.{Copied}
use Rattle.cluster_admin.proofs.survey.Survey.closed.Given as goal

abbrev pub invariant-loop-number : goal.invariant-loop-number
invariant-loop-number l = (length l.tables.items ≡ l.number) × Copied l.owners.nodes (λ n. closed_row l.owners.owners) l.tables.items
