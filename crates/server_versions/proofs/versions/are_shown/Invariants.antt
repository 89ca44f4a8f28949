use Rattle.std.proofs.Common.{◌≡◌, length}
use Rattle.server_versions.specs.Versions.{are_shown}
use Rattle.server_versions.proofs.versions.are_shown.Given as goal

-- what is left says the same as the whole
abbrev pub invariant-loop-left : goal.invariant-loop-left
invariant-loop-left l = are_shown l.text ≡ are_shown l.left

abbrev pub decreases-loop-left : goal.decreases-loop-left
decreases-loop-left l = length l.left
