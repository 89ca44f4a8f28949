-- What stands at a command's keys, and what an edit leaves there.
use Rattle.std.specs.Prelude.{ℕ, zero, suc, List, [], ◌∷◌, codes, Option, Some, None, Result, Ok, Err, if◌then◌else◌}
use Rattle.std.specs.Prelude.{unwrap_or}
use Rattle.typed_values.specs.Fields.{Fields}
use Rattle.typed_values.specs.Elements.{Elements}
use Rattle.typed_values.specs.Values.{text_of, hash_of, list_of, set_of, is_empty_collection}
use Rattle.typed_values.specs.Edits.{edit_of}
use Rattle.typed_values.specs.declared.fault.ValueFault.{ValueFault}
use Rattle.typed_values.specs.declared.value.Value.{Value}
use Rattle.typed_values.specs.declared.value.Value.TheVariants as value
use Rattle.typed_values.specs.declared.edit.TextEdit.TheVariants.{Append, Increase}
use Rattle.typed_values.specs.declared.edit.Edit.{Edit}
use Rattle.typed_values.specs.declared.edit.Edit.TheVariants as edit

-- what stands at the named keys, in their order
abbrev pub Found : Type 0
Found = List (Option Value)

abbrev pub place : ℕ → Found → Option Value
place n [] = None
place zero (v ∷ vs) = v
place (suc n) (v ∷ vs) = place n vs

-- What stands at a key, for a command on one kind: a missing text is empty, a missing counter 0, a missing collection
-- has nothing in it.
abbrev pub text_at : Option Value → Result (List ℕ) ValueFault
text_at None = Ok []
text_at (Some v) = text_of v

abbrev pub counter_at : Option Value → Result (List ℕ) ValueFault
counter_at None = Ok (codes "0")
counter_at (Some v) = text_of v

abbrev pub hash_at : Option Value → Result Fields ValueFault
hash_at None = Ok []
hash_at (Some v) = hash_of v

abbrev pub list_at : Option Value → Result Elements ValueFault
list_at None = Ok []
list_at (Some v) = list_of v

abbrev pub set_at : Option Value → Result (List (List ℕ)) ValueFault
set_at None = Ok []
set_at (Some v) = set_of v

-- the value that an edit of a missing one begins with
abbrev pub fresh : Edit → Value
fresh (edit.Text (Append more)) = value.Text []
fresh (edit.Text (Increase n)) = value.Text (codes "0")
fresh (edit.Hash e) = value.Hash []
fresh (edit.List e) = value.List []
fresh (edit.Set e) = value.Set []

-- a collection that became empty goes with its key
abbrev pub value_left : Value → Option Value
value_left v = if is_empty_collection v then None else Some v

abbrev pub stands : Result Value ValueFault → Found
stands (Ok v) = value_left v ∷ []
stands (Err e) = []

-- What the edit leaves at a key. Where it cannot be done, the key stays as it is.
abbrev pub edit_left : Edit → Option Value → Found
edit_left e found = stands (edit_of e (unwrap_or found (fresh e)))
