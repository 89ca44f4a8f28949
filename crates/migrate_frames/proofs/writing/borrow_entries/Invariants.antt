use Rattle.std.proofs.Common.{◌≡◌, take, length}
use Rattle.migrate_frames.specs.Batches.{entries_of}
use Rattle.migrate_frames.proofs.writing.borrow_entries.Given as goal

abbrev pub invariant-loop-key : goal.invariant-loop-key
invariant-loop-key l = record {
  entries : entries_of l.entries.items ≡ take l.key-index l.batch;
  count : length l.entries.items ≡ l.key-index;
}
