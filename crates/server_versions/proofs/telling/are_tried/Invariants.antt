use Rattle.std.proofs.Common.{◌≡◌, length}
use Rattle.server_versions.specs.Versions.{are_tried}
use Rattle.server_versions.proofs.telling.are_tried.Given as goal

-- what is left says the same as the whole
abbrev pub invariant-loop-left : goal.invariant-loop-left
invariant-loop-left l = are_tried l.versions ≡ are_tried l.left

abbrev pub decreases-loop-left : goal.decreases-loop-left
decreases-loop-left l = length l.left
