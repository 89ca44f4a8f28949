use Rattle.std.proofs.Common.{◌≡◌, length}
use Rattle.server_replicas.specs.Marks.{is_marked}
use Rattle.server_replicas.proofs.marks.is_marked.Given as goal

-- what is left says the same as the whole
abbrev pub invariant-loop-left : goal.invariant-loop-left
invariant-loop-left l = is_marked l.slot l.words ≡ is_marked l.slot l.left

abbrev pub decreases-loop-left : goal.decreases-loop-left
decreases-loop-left l = length l.left
