-- What an edit makes of a value.
use Rattle.std.specs.Prelude.{ℕ, List, Result, Ok, Err}
use Rattle.std.specs.Result.{result_unwrap_or}
use Rattle.std.specs.Fmt.{signed_decimal}
use Rattle.typed_values.specs.Faults.{map_ok}
use Rattle.typed_values.specs.Texts.{append_result, increase_result}
use Rattle.typed_values.specs.Fields.{Fields, fields_set, fields_without}
use Rattle.typed_values.specs.Elements.{Elements, pushed_front, pushed_back, popped_front, popped_back}
use Rattle.typed_values.specs.Members.{members_added, members_without}
use Rattle.typed_values.specs.declared.fault.ValueFault.{ValueFault}
use Rattle.typed_values.specs.declared.fault.ValueFault.TheVariants.{WrongType}
use Rattle.typed_values.specs.declared.value.Value.{Value}
use Rattle.typed_values.specs.declared.value.Value.TheVariants as value
use Rattle.typed_values.specs.declared.edit.TextEdit.{TextEdit}
use Rattle.typed_values.specs.declared.edit.TextEdit.TheVariants.{Append, Increase}
use Rattle.typed_values.specs.declared.edit.HashEdit.{HashEdit}
use Rattle.typed_values.specs.declared.edit.HashEdit.TheVariants.{SetFields, DeleteFields}
use Rattle.typed_values.specs.declared.edit.ListEdit.{ListEdit}
use Rattle.typed_values.specs.declared.edit.ListEdit.TheVariants.{PushFront, PushBack, PopFront, PopBack}
use Rattle.typed_values.specs.declared.edit.SetEdit.{SetEdit}
use Rattle.typed_values.specs.declared.edit.SetEdit.TheVariants.{AddMembers, RemoveMembers}
use Rattle.typed_values.specs.declared.edit.Edit.{Edit}
use Rattle.typed_values.specs.declared.edit.Edit.TheVariants as edit

abbrev pub text_edit : TextEdit → List ℕ → Result (List ℕ) ValueFault
text_edit (Append more) t = append_result t more
text_edit (Increase n) t = map_ok signed_decimal (increase_result t n)

abbrev pub hash_edit : HashEdit → Fields → Result Fields ValueFault
hash_edit (SetFields ps) es = fields_set es ps
hash_edit (DeleteFields fs) es = Ok (fields_without es fs)

abbrev pub list_edit : ListEdit → Elements → Result Elements ValueFault
list_edit (PushFront xs) l = pushed_front l xs
list_edit (PushBack xs) l = pushed_back l xs
list_edit PopFront l = Ok (popped_front l)
list_edit PopBack l = Ok (popped_back l)

abbrev pub set_edit : SetEdit → List (List ℕ) → Result (List (List ℕ)) ValueFault
set_edit (AddMembers xs) ms = members_added ms xs
set_edit (RemoveMembers xs) ms = Ok (members_without ms xs)

-- the value after the edit, or why it cannot be done
abbrev pub edit_of : Edit → Value → Result Value ValueFault
edit_of (edit.Text e) (value.Text t) = map_ok (λ now. value.Text now) (text_edit e t)
edit_of (edit.Hash e) (value.Hash es) = map_ok (λ now. value.Hash now) (hash_edit e es)
edit_of (edit.List e) (value.List l) = map_ok (λ now. value.List now) (list_edit e l)
edit_of (edit.Set e) (value.Set ms) = map_ok (λ now. value.Set now) (set_edit e ms)
edit_of e v = Err WrongType

-- the value after the edit, which stays as it is where the edit cannot be done
abbrev pub value_after : Edit → Value → Value
value_after e v = result_unwrap_or (edit_of e v) v
