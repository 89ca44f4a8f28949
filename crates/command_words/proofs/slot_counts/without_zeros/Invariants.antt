use Rattle.std.proofs.Common.{◌≡◌, length}
use Rattle.command_words.specs.SlotCounts.{without_zeros}
use Rattle.command_words.proofs.slot_counts.without_zeros.Given as goal

abbrev pub invariant-loop-left : goal.invariant-loop-left
invariant-loop-left l = without_zeros l.left ≡ without_zeros l.fn.digits

abbrev pub decreases-loop-left : goal.decreases-loop-left
decreases-loop-left l = length l.left
