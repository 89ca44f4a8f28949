-- The replies of commands (the Redis serialization protocol; the commands' pages). The texts of limits are this
-- project's own.
use Rattle.std.specs.Prelude.{ℕ, Bool, true, false, List, length, codes, Result, Ok, Err}
use Rattle.typed_values.specs.declared.fault.ValueFault.{ValueFault}
use Rattle.typed_values.specs.declared.fault.ValueFault.TheVariants.{WrongType, NotInteger, Overflow, Memory, TooLong}
pub use Rattle.resp2_wire.specs.Constructors.{count, truth}
pub use Rattle.resp2_wire.specs.Constructors.{bulk_or_null as bulk}
pub use Rattle.resp2_wire.specs.Constructors.{bulk_array as array}
use Rattle.resp2_wire.specs.declared.reply.Reply.{Reply}
use Rattle.resp2_wire.specs.declared.reply.Reply.TheVariants.{Simple, Error, Number, Bulk, Null, NullArray, Array}

abbrev pub ok : Reply
ok = Simple (codes "OK")

abbrev pub wrong_kind : Reply
wrong_kind = Error (codes "WRONGTYPE Operation against a key holding the wrong kind of value")

abbrev pub not_integer : Reply
not_integer = Error (codes "ERR value is not an integer or out of range")

abbrev pub overflow : Reply
overflow = Error (codes "ERR increment or decrement would overflow")

abbrev pub no_such_key : Reply
no_such_key = Error (codes "ERR no such key")

abbrev pub text_too_long : Reply
text_too_long = Error (codes "ERR string exceeds the limit of 1048576 bytes")

abbrev pub collection_too_long : Reply
collection_too_long = Error (codes "ERR collection exceeds the limit of 1048576 elements")

-- what no operation's meaning is
abbrev pub out_of_memory : Reply
out_of_memory = Error (codes "ERR out of memory")

-- why an operation on a value cannot be done, where this is the reply to one that would be too long
abbrev pub refusal : Reply → ValueFault → Reply
refusal too_long WrongType = wrong_kind
refusal too_long NotInteger = not_integer
refusal too_long Overflow = overflow
refusal too_long TooLong = too_long
refusal too_long Memory = out_of_memory

-- whether a command is refused so
abbrev pub is_error : Reply → Bool
is_error (Error t) = true
is_error (Simple t) = false
is_error (Number n) = false
is_error (Bulk t) = false
is_error Null = false
is_error NullArray = false
is_error (Array ts) = false

-- the reply to an operation's result, or why there is none
abbrev pub reply_or_refusal : {X : Type 0} → Reply → (X → Reply) → Result X ValueFault → Reply
reply_or_refusal too_long f (Ok x) = f x
reply_or_refusal too_long f (Err e) = refusal too_long e

abbrev pub text_reply : {X : Type 0} → (X → Reply) → Result X ValueFault → Reply
text_reply = reply_or_refusal text_too_long

abbrev pub collection_reply : {X : Type 0} → (X → Reply) → Result X ValueFault → Reply
collection_reply = reply_or_refusal collection_too_long

-- how many elements there are in the result
abbrev pub length_of : Result (List (List ℕ)) ValueFault → Reply
length_of = collection_reply (λ l. count (length l))
