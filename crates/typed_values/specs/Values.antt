-- The kinds of values.
use Rattle.std.specs.Prelude.{ℕ, Bool, true, false, List, [], ◌∷◌, codes, Result, Ok, Err}
use Rattle.typed_values.specs.Fields.{Fields}
use Rattle.typed_values.specs.Elements.{Elements}
use Rattle.typed_values.specs.declared.fault.ValueFault.{ValueFault}
use Rattle.typed_values.specs.declared.fault.ValueFault.TheVariants.{WrongType}
use Rattle.typed_values.specs.declared.value.Value.{Value}
use Rattle.typed_values.specs.declared.value.Value.TheVariants as value

-- TYPE, https://redis.io/docs/latest/commands/type/
abbrev pub kind : Value → List ℕ
kind (value.Text t) = codes "string"
kind (value.Hash es) = codes "hash"
kind (value.List l) = codes "list"
kind (value.Set ms) = codes "set"

-- the content of a value of the kind that is asked for
abbrev pub text_of : Value → Result (List ℕ) ValueFault
text_of (value.Text t) = Ok t
text_of v = Err WrongType

abbrev pub hash_of : Value → Result Fields ValueFault
hash_of (value.Hash es) = Ok es
hash_of v = Err WrongType

abbrev pub list_of : Value → Result Elements ValueFault
list_of (value.List l) = Ok l
list_of v = Err WrongType

abbrev pub set_of : Value → Result (List (List ℕ)) ValueFault
set_of (value.Set ms) = Ok ms
set_of v = Err WrongType

abbrev pub is_nil : {X : Type 0} → List X → Bool
is_nil [] = true
is_nil (x ∷ xs) = false

-- a collection with nothing in it, which a store does not keep
abbrev pub is_empty_collection : Value → Bool
is_empty_collection (value.Text t) = false
is_empty_collection (value.Hash es) = is_nil es
is_empty_collection (value.List l) = is_nil l
is_empty_collection (value.Set ms) = is_nil ms
