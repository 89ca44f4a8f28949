use Rattle.std.proofs.Common.{◌≡◌, ◌-◌, []}
use Rattle.migrate_frames.specs.Reading.{many, new_piece_at}
use Rattle.migrate_frames.proofs.collections.members_at.Given as goal

abbrev pub invariant-loop : goal.invariant-loop
invariant-loop l = many new_piece_at l.members (l.count - l.counter) l.rest ≡ many new_piece_at [] l.count l.bytes
