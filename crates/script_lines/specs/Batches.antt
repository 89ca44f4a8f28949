-- The keys that a `migrate` line may name.
use Rattle.std.specs.Prelude.{ℕ, Bool, cond, ◌==◌, ◌&&◌, List, [], length, Result, Ok, Err}
use Rattle.key_slots.specs.OneSlot.{have_one_slot}
use Rattle.typed_values.specs.Members.{members_with}
use Rattle.script_lines.specs.declared.fault.ScriptFault.{ScriptFault}
use Rattle.script_lines.specs.declared.fault.ScriptFault.TheVariants.{Word}

-- no key is named twice: a set of them has as many members
abbrev pub are_distinct : List (List ℕ) → Bool
are_distinct ks = length (members_with [] ks) == length ks

abbrev pub one_batch : List (List ℕ) → Result (List (List ℕ)) ScriptFault
one_batch ks = cond (are_distinct ks && have_one_slot ks) (Ok ks) (Err Word)
