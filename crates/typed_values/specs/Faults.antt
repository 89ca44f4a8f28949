-- What an operation on a value gives where it cannot be done, and the limit of a value.
use Rattle.std.specs.Prelude.{ℕ, Bool, true, false, List, codes, if◌then◌else◌, nat_lt, Result, Ok, Err}
use Rattle.typed_values.specs.declared.fault.ValueFault.{ValueFault}
use Rattle.typed_values.specs.declared.fault.ValueFault.TheVariants.{WrongType, NotInteger, Overflow, Memory, TooLong}

-- x, where its length n is within the limit: 1 MiB of a text, 1,048,576 fields, elements or members of a collection
abbrev pub within : {X : Type 0} → ℕ → X → Result X ValueFault
within n x = if nat_lt 1048576 n then Err TooLong else Ok x

-- what f makes of the result, if there is one
abbrev pub map_ok : {X Y : Type 0} → (X → Y) → Result X ValueFault → Result Y ValueFault
map_ok f (Ok x) = Ok (f x)
map_ok f (Err e) = Err e

abbrev pub is_memory : ValueFault → Bool
is_memory Memory = true
is_memory WrongType = false
is_memory NotInteger = false
is_memory Overflow = false
is_memory TooLong = false

-- what is printed of a fault
abbrev pub text_of : ValueFault → List ℕ
text_of WrongType = codes "the value is of another kind"
text_of NotInteger = codes "the text is not an integer of 64 bits"
text_of Overflow = codes "the sum is not an integer of 64 bits"
text_of Memory = codes "out of memory"
text_of TooLong = codes "the value would exceed its limit"
