use Rattle.std.proofs.Common.{◌≡◌, take}
use Rattle.resp2_wire.specs.Held.{held, own_lengths}
use Rattle.resp2_wire.specs.View.{trees}
use Rattle.resp2_wire.proofs.lengths.own_lengths.Given as goal

abbrev pub invariant-loop-reply : goal.invariant-loop-reply
invariant-loop-reply l = l.total ≡ held (own_lengths (trees (take l.reply-index l.replies)))
