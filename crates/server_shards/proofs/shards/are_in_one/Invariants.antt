use Rattle.std.proofs.Common.{◌≡◌, length}
use Rattle.resp2_wire.specs.View.{trees}
use Rattle.server_shards.specs.Shards.{any_of, is_with}
use Rattle.server_shards.proofs.shards.are_in_one.Given as goal

-- what is left says the same as the whole
abbrev pub invariant-loop-left : goal.invariant-loop-left
invariant-loop-left l = any_of (is_with l.one l.other) (trees l.shards) ≡ any_of (is_with l.one l.other) (trees l.left)

abbrev pub decreases-loop-left : goal.decreases-loop-left
decreases-loop-left l = length l.left
