use Rattle.std.proofs.Common.{◌≡◌, ◌<◌, ℕ, length}
use Rattle.std.specs.Prelude.{slice_index_or}
use Rattle.slot_key_counts.specs.Moved.{keys_at_owner}
use Rattle.slot_key_counts.specs.Questions.{asked_owner}
use Rattle.slot_key_counts.specs.Tables.{told_in}
use Rattle.slot_key_counts.proofs.moved.fill.Given as goal

-- those of the slots before are filled
abbrev pub invariant-loop-number : goal.invariant-loop-number
invariant-loop-number l = (length l.counts.items ≡ 16384)
    × ((s : ℕ) → s < l.number → slice_index_or l.counts.items s 0 ≡ keys_at_owner (told_in l.table) s (asked_owner l.questions s))
