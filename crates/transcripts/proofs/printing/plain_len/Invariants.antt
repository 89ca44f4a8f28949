use Rattle.std.proofs.Common.{◌≡◌, ◌≤◌, ◌<◌, ◌-◌, ℕ, true, length, slice_index}
use Rattle.transcripts.specs.Printing.{stands_for_itself}
use Rattle.transcripts.proofs.printing.plain_len.Given as goal

-- every byte before the place stands for itself
abbrev pub invariant-loop-start : goal.invariant-loop-start
invariant-loop-start l = record {
  within : l.start ≤ length l.bytes;
  passed : (k : ℕ) → k < l.start → stands_for_itself (slice_index l.bytes k) ≡ true;
}

abbrev pub decreases-loop-start : goal.decreases-loop-start
decreases-loop-start l = length l.bytes - l.start
