use Rattle.std.proofs.Common.{◌≡◌, ◌-◌, []}
use Rattle.migrate_frames.specs.Reading.{many, element_at}
use Rattle.migrate_frames.proofs.collections.elements_at.Given as goal

abbrev pub invariant-loop : goal.invariant-loop
invariant-loop l = many element_at l.items (l.count - l.counter) l.rest ≡ many element_at [] l.count l.bytes
