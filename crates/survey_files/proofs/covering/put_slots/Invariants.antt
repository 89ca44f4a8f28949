use Rattle.std.proofs.Common.{◌+◌, ◌≤◌, max}
use Rattle.survey_files.proofs.Filling.{ArePut}
use Rattle.survey_files.proofs.covering.put_slots.Given as goal

-- the slots before this one were put
abbrev pub invariant-loop-slot : goal.invariant-loop-slot
invariant-loop-slot l = record {
  put : ArePut l.fn.first l.slot l.owner l.initial.row l.row;
  within : l.slot ≤ max l.fn.first (l.fn.last + 1);
  from : l.fn.first ≤ l.slot;
}
