use Rattle.std.proofs.Common.{◌≡◌, length}
use Rattle.typed_values.specs.Fingerprints.{mixed_each}
use Rattle.typed_values.proofs.sorted.with_each.Given as goal

abbrev pub invariant-loop-left : goal.invariant-loop-left
invariant-loop-left l = mixed_each l.hash l.left ≡ mixed_each l.number l.text

abbrev pub decreases-loop-left : goal.decreases-loop-left
decreases-loop-left l = length l.left
