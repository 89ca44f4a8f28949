use Rattle.std.proofs.Common.{◌≡◌, length}
use Rattle.server_replicas.specs.Marks.{shows_mark}
use Rattle.server_replicas.proofs.marks.shows_mark.Given as goal

-- what is left shows the same as the whole
abbrev pub invariant-loop-left : goal.invariant-loop-left
invariant-loop-left l = shows_mark l.slot l.lines ≡ shows_mark l.slot l.left

abbrev pub decreases-loop-left : goal.decreases-loop-left
decreases-loop-left l = length l.left
