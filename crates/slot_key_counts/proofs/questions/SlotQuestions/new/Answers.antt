use Rattle.std.proofs.Common.{rules}
use Rattle.slot_key_counts.proofs.Placed.{blank_owners}
use Rattle.slot_key_counts.proofs.questions.SlotQuestions.new.Goals as goal

pub returns-clause-none : goal.returns-clause-none
returns-clause-none c = blank_owners c.in_ok-owners.owners.items 16384 (c.in_ok-owners.ensures.items_if_clones_equal (search rules))
