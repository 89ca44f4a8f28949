use Rattle.std.proofs.Common.{◌≡◌, length}
use Rattle.server_shards.specs.Targets.{is_told}
use Rattle.server_shards.proofs.targets.is_told.Given as goal

-- what is left says the same as the whole
abbrev pub invariant-loop-left : goal.invariant-loop-left
invariant-loop-left l = is_told l.node l.lines ≡ is_told l.node l.left

abbrev pub decreases-loop-left : goal.decreases-loop-left
decreases-loop-left l = length l.left
