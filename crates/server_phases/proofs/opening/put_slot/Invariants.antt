use Rattle.std.proofs.Common.{◌≡◌, length}
use Rattle.server_phases.proofs.Tables.{ArePut}
use Rattle.server_phases.proofs.opening.put_slot.Given as goal

-- the slot is in the tables of the nodes before
abbrev pub invariant-loop-table : goal.invariant-loop-table
invariant-loop-table l = record {
  kept : length l.table-items ≡ length l.initial.table-items;
  many : length l.table-items ≡ length l.survey.rows;
  put : ArePut l.survey l.slot l.table-index l.table-items;
}
