use Rattle.std.proofs.Common.{◌≡◌, ◌<◌, ℕ, true, slice_index}
use Rattle.transcripts.specs.Printing.{stands_for_itself}
use Rattle.transcripts.proofs.printing.plain_len_from.Given as goal

-- every byte before the place stands for itself
abbrev pub invariant-loop-place : goal.invariant-loop-place
invariant-loop-place l = (k : ℕ) → k < l.place → stands_for_itself (slice_index l.bytes k) ≡ true
