use Rattle.std.proofs.Common.{◌≡◌, ◌+◌, ◌*◌, ◌-◌}
use Rattle.resp2_wire.specs.Replies.{many, reply_at}
use Rattle.resp2_wire.specs.View.{trees}
use Rattle.resp2_wire.proofs.Elements.{with_prefix}
use Rattle.resp2_wire.proofs.decoding.+decoding.Given as goal

abbrev pub decreases-many : goal.decreases-many
decreases-many l = 4 * l.depth + 3

abbrev pub decreases-reply_at : goal.decreases-reply_at
decreases-reply_at l = 4 * l.depth + 2

abbrev pub decreases-array_at : goal.decreases-array_at
decreases-array_at l = 4 * l.depth + 1

abbrev pub decreases-array_of : goal.decreases-array_of
decreases-array_of l = 4 * l.depth + 4

abbrev pub invariant-many-loop : goal.invariant-many-loop
invariant-many-loop l = with_prefix (trees l.replies.items) (many (reply_at l.depth) (l.count - l.counter) l.rest) ≡ many (reply_at l.depth) l.count l.bytes
