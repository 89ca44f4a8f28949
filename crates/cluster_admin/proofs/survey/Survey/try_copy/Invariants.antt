use Rattle.std.proofs.Common.{◌≡◌, take}
use Rattle.cluster_admin.proofs.survey.Survey.try_copy.Given as goal

-- the tables before this one are copied
abbrev pub invariant-loop-table : goal.invariant-loop-table
invariant-loop-table l = l.tables.items ≡ take l.table-index l.table-items
