use Rattle.std.proofs.Common.{◌≡◌, ◌-◌, []}
use Rattle.migrate_frames.specs.Reading.{many, pair_at}
use Rattle.migrate_frames.proofs.collections.pairs_at.Given as goal

abbrev pub invariant-loop : goal.invariant-loop
invariant-loop l = many pair_at l.fields (l.count - l.counter) l.rest ≡ many pair_at [] l.count l.bytes
