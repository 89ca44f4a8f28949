use Rattle.std.proofs.Common.{◌≡◌, length}
use Rattle.server_phases.specs.Opened.{AreTablesBelow}
use Rattle.server_phases.proofs.opening.tables_told.Given as goal

-- the tables of the nodes before
abbrev pub invariant-loop-number : goal.invariant-loop-number
invariant-loop-number l = record {
  many : length l.tables.items ≡ l.number;
  told : AreTablesBelow l.survey 0 l.tables.items;
}
