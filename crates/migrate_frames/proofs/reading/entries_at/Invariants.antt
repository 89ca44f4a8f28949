use Rattle.std.proofs.Common.{◌≡◌, ◌-◌, []}
use Rattle.std.specs.Map.{keys_of}
use Rattle.migrate_frames.specs.Reading.{many, entry_at}
use Rattle.migrate_frames.proofs.reading.entries_at.Given as goal

abbrev pub invariant-loop : goal.invariant-loop
invariant-loop l = record {
  seen : l.keys ≡ keys_of l.batch.items;
  so_far : many entry_at l.batch.items (l.count - l.counter) l.rest ≡ many entry_at [] l.count l.bytes;
}
