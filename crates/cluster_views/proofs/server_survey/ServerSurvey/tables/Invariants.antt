use Rattle.std.proofs.Common.{◌≡◌, length}
use Rattle.cluster_admin.specs.Surveys.{row_at}
use Rattle.cluster_admin.proofs.Surveyed.{Copied}
use Rattle.cluster_views.proofs.server_survey.ServerSurvey.tables.Given as goal

-- the tables of the nodes before
abbrev pub invariant-loop-number : goal.invariant-loop-number
invariant-loop-number l = record {
  many : length l.tables.items ≡ l.number;
  copied : Copied (length l.self.rows) (row_at l.self) l.tables.items;
}
