use Rattle.std.proofs.Common.{◌≡◌}
use Rattle.slot_key_counts.specs.Questions.{wants}
use Rattle.slot_key_counts.specs.Rounds.{batch}
use Rattle.slot_key_counts.proofs.questions.SlotQuestions.batch.Given as goal

-- of the slots before those that are asked for are put
abbrev pub invariant-loop-place : goal.invariant-loop-place
invariant-loop-place l = l.slots.items ≡ batch (wants l.self l.node) l.round l.place
