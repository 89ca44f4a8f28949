use Rattle.std.proofs.Common.{◌≡◌, length}
use Rattle.server_phases.specs.Opened.{AreTablesBelow}
use Rattle.server_phases.proofs.opening.survey_of_phases.Given as goal

-- the slots before are in all tables
abbrev pub invariant-loop-number : goal.invariant-loop-number
invariant-loop-number l = record {
  many : length l.tables.items ≡ length l.survey.rows;
  below : AreTablesBelow l.survey l.number l.tables.items;
}
