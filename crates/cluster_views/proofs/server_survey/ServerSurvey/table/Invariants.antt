use Rattle.cluster_views.proofs.Marked.{MarkedTable}
use Rattle.cluster_views.proofs.server_survey.ServerSurvey.table.Given as goal

-- the marks of the slots before are put
abbrev pub invariant-loop-number : goal.invariant-loop-number
invariant-loop-number l = MarkedTable l.self l.node l.number l.table
