-- Commands on the text at a key: the reply, and what stands there next. With no entry the key stays as it is.
use Rattle.std.specs.Prelude.{ℤ, pos, negsuc, neg_ℤ, ℕ, List, [], ◌∷◌, length, Option, Some, None, Result, Ok, Err}
use Rattle.std.specs.Prelude.{ok_or}
use Rattle.typed_values.specs.Numbers.{number}
use Rattle.typed_values.specs.Texts.{append_result, increase_result, in_range}
use Rattle.typed_values.specs.Values.{text_of}
use Rattle.typed_values.specs.declared.fault.ValueFault.{ValueFault}
use Rattle.typed_values.specs.declared.fault.ValueFault.TheVariants.{NotInteger}
use Rattle.typed_values.specs.declared.value.Value.{Value}
use Rattle.typed_values.specs.declared.value.Value.TheVariants as value
use Rattle.typed_values.specs.declared.edit.TextEdit.TheVariants as text
use Rattle.typed_values.specs.declared.edit.Edit.TheVariants as edit
use Rattle.resp2_wire.specs.declared.reply.Reply.{Reply}
use Rattle.resp2_wire.specs.declared.reply.Reply.TheVariants.{Number, Bulk, Null}
use Rattle.store_commands.specs.Replies.{ok, count, text_reply, refusal, text_too_long}
use Rattle.store_commands.specs.Found.{Found, text_at, counter_at, edit_left}
use Rattle.client_commands.specs.declared.command.TextCommand.{TextCommand}
use Rattle.client_commands.specs.declared.command.TextCommand.TheVariants.{Get, Set, SetNx, Append, StrLen, Incr, Decr}
use Rattle.client_commands.specs.declared.command.TextCommand.TheVariants.{IncrBy, DecrBy}

-- GET, https://redis.io/docs/latest/commands/get/
abbrev pub text_or_null : Option Value → Reply
text_or_null None = Null
text_or_null (Some v) = text_reply (λ t. Bulk t) (text_of v)

-- SETNX, https://redis.io/docs/latest/commands/setnx/
abbrev pub set_if_missing : List ℕ → Option Value → Reply × Found
set_if_missing t None = (count 1, Some (value.Text t) ∷ [])
set_if_missing t (Some v) = (count 0, [])

-- INCRBY, https://redis.io/docs/latest/commands/incrby/, by a number that may not be one: this is reported before the
-- key is looked at
abbrev pub increment_result : Result ℤ ValueFault → Option Value → Reply × Found
increment_result (Err e) found = (refusal text_too_long e, [])
increment_result (Ok z) found = (
  text_reply (λ t. text_reply (λ sum. Number sum) (increase_result t z)) (counter_at found),
  edit_left (edit.Text (text.Increase z)) found,
)

-- the number of an argument
abbrev pub integer : List ℕ → Result ℤ ValueFault
integer t = ok_or (number t) NotInteger

-- and what is to be added for it by DECRBY, https://redis.io/docs/latest/commands/decrby/
abbrev pub checked_neg : Result ℤ ValueFault → Result ℤ ValueFault
checked_neg (Ok z) = in_range (neg_ℤ z)
checked_neg (Err e) = Err e

abbrev pub act_text : TextCommand → Option Value → Reply × Found
act_text Get found = (text_or_null found, [])
act_text (Set t) found = (ok, Some (value.Text t) ∷ [])
act_text (SetNx t) found = set_if_missing t found
act_text (Append more) found = (
  text_reply (λ t. text_reply (λ now. count (length now)) (append_result t more)) (text_at found),
  edit_left (edit.Text (text.Append more)) found,
)
act_text StrLen found = (text_reply (λ t. count (length t)) (text_at found), [])
act_text Incr found = increment_result (Ok (pos 1)) found
act_text Decr found = increment_result (Ok (negsuc 0)) found
act_text (IncrBy n) found = increment_result (integer n) found
act_text (DecrBy n) found = increment_result (checked_neg (integer n)) found
