use Rattle.std.proofs.Common.{◌≡◌, ◌++◌, take}
use Rattle.std.specs.List.{flat_map, AllByRecursion}
use Rattle.migrate_frames.specs.Batches.{FitsEntry, entries_of}
use Rattle.migrate_frames.specs.Frames.{entry}
use Rattle.migrate_frames.proofs.writing.push_entries.Given as goal

abbrev pub invariant-loop-item : goal.invariant-loop-item
invariant-loop-item l = record {
  written : l.out.items ≡ l.initial.out.items ++ flat_map entry (entries_of (take l.item-index l.batch));
  each : AllByRecursion FitsEntry (entries_of (take l.item-index l.batch));
}
