use Rattle.std.proofs.Common.{◌≡◌, ◌<◌, ◌-◌, ℕ, false, nat_eq, length, slice_index}
use Rattle.byte_texts.proofs.parts.len_before.Given as goal

-- no byte before the place is such a one
abbrev pub invariant-loop-start : goal.invariant-loop-start
invariant-loop-start l = (k : ℕ) → k < l.start → nat_eq (slice_index l.text k) l.byte ≡ false

abbrev pub decreases-loop-start : goal.decreases-loop-start
decreases-loop-start l = length l.text - l.start
