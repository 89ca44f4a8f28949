-- Which slots are asked for, and at which nodes.
use Rattle.std.specs.Prelude.{ℕ, ◌==◌, Bool, false, cond, not, Option, None, Some, slice_index_or}
use Rattle.slot_key_counts.specs.Rounds.{Wants}
use Rattle.slot_key_counts.specs.declared.questions.AskedNodes.{AskedNodes}
use Rattle.slot_key_counts.specs.declared.questions.AskedNodes.TheVariants.{Owner, Others}
use Rattle.slot_key_counts.specs.declared.questions.SlotQuestions.{SlotQuestions}

-- a slot with this owner is asked for at the node: at its owner, or at all others
abbrev pub asks_at : AskedNodes → (node owner : ℕ) → Bool
asks_at Owner n o = o == n
asks_at Others n o = not (o == n)

-- a slot that has no owner there is asked for nowhere
abbrev pub asks_for : AskedNodes → (node : ℕ) → Option ℕ → Bool
asks_for whom n None = false
asks_for whom n (Some o) = asks_at whom n o

-- the owner of a slot that is asked for
abbrev pub asked_owner : SlotQuestions → (slot : ℕ) → Option ℕ
asked_owner q s = slice_index_or q.owners.items s None

-- none, and one slot more
abbrev pub no_owner : ℕ → Option ℕ
no_owner s = None

abbrev pub with_owner : (ℕ → Option ℕ) → (slot owner : ℕ) → ℕ → Option ℕ
with_owner owners slot owner s = cond (slot == s) (Some owner) (owners s)

abbrev pub wants : SlotQuestions → Wants
wants q n s = asks_for q.whom n (asked_owner q s)
