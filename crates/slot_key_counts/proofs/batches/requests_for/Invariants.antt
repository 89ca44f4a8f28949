use Rattle.std.proofs.Common.{◌≡◌, ◌++◌, length}
use Rattle.slot_key_counts.specs.Rounds.{requests_for}
use Rattle.slot_key_counts.proofs.batches.requests_for.Given as goal

abbrev pub invariant-loop-left : goal.invariant-loop-left
invariant-loop-left l = l.requests.items ++ requests_for l.left ≡ requests_for l.fn.slots

abbrev pub decreases-loop-left : goal.decreases-loop-left
decreases-loop-left l = length l.left
