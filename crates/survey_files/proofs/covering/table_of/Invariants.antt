use Rattle.std.proofs.Common.{◌≡◌, ◌<◌, ℕ, None, Some, length}
use Rattle.std.specs.Prelude.{slice_index, slice_index_or}
use Rattle.survey_files.proofs.covering.table_of.Given as goal

-- the slots before this one have their owners
abbrev pub invariant-loop-slot : goal.invariant-loop-slot
invariant-loop-slot l = record {
  nodes : l.owners.nodes ≡ l.nodes;
  width : length l.owners.owners ≡ 16384;
  owners : (s : ℕ) → s < l.slot → slice_index_or l.row s None ≡ Some (slice_index l.owners.owners s);
}
