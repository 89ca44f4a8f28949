use Rattle.std.proofs.Common.{◌≡◌, length}
use Rattle.resp2_wire.specs.View.{trees}
use Rattle.server_shards.specs.Shards.{any_of, is_text}
use Rattle.server_shards.proofs.shards.is_in_texts.Given as goal

-- what is left says the same as the whole
abbrev pub invariant-loop-left : goal.invariant-loop-left
invariant-loop-left l = any_of (is_text l.id) (trees l.values) ≡ any_of (is_text l.id) (trees l.left)

abbrev pub decreases-loop-left : goal.decreases-loop-left
decreases-loop-left l = length l.left
