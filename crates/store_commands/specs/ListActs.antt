-- Commands on the list at a key (the pages LPUSH, RPUSH, LPOP, RPOP, LLEN, LRANGE of
-- https://redis.io/docs/latest/commands/). A missing list has no elements, and a value of another kind is reported.
use Rattle.std.specs.Prelude.{ℤ, [], length, Option, Some, None}
use Rattle.typed_values.specs.Elements.{pushed_front, pushed_back, front, back, range}
use Rattle.typed_values.specs.Numbers.{number}
use Rattle.typed_values.specs.declared.value.Value.{Value}
use Rattle.typed_values.specs.declared.edit.ListEdit.TheVariants.{PushFront, PushBack, PopFront, PopBack}
use Rattle.typed_values.specs.declared.edit.Edit.TheVariants as edit
use Rattle.resp2_wire.specs.declared.reply.Reply.{Reply}
use Rattle.store_commands.specs.Replies.{count, bulk, array, not_integer, collection_reply, length_of}
use Rattle.store_commands.specs.Found.{Found, list_at, edit_left}
use Rattle.client_commands.specs.declared.command.ListCommand.{ListCommand}
use Rattle.client_commands.specs.declared.command.ListCommand.TheVariants.{LPush, RPush, LPop, RPop, LLen, LRange}

-- LRANGE: that an index is no number is reported before the key is looked at
abbrev pub range_reply : Option ℤ → Option ℤ → Option Value → Reply
range_reply None stop found = not_integer
range_reply (Some a) None found = not_integer
range_reply (Some a) (Some b) found = collection_reply (λ l. array (range l a b)) (list_at found)

-- the reply
abbrev pub list_reply : ListCommand → Option Value → Reply
list_reply (LPush xs) found = collection_reply (λ l. length_of (pushed_front l xs)) (list_at found)
list_reply (RPush xs) found = collection_reply (λ l. length_of (pushed_back l xs)) (list_at found)
list_reply LPop found = collection_reply (λ l. bulk (front l)) (list_at found)
list_reply RPop found = collection_reply (λ l. bulk (back l)) (list_at found)
list_reply LLen found = collection_reply (λ l. count (length l)) (list_at found)
list_reply (LRange a b) found = range_reply (number a) (number b) found

-- what stands at the key next: with no entry it stays as it is
abbrev pub list_left : ListCommand → Option Value → Found
list_left (LPush xs) found = edit_left (edit.List (PushFront xs)) found
list_left (RPush xs) found = edit_left (edit.List (PushBack xs)) found
list_left LPop found = edit_left (edit.List PopFront) found
list_left RPop found = edit_left (edit.List PopBack) found
list_left LLen found = []
list_left (LRange a b) found = []

abbrev pub act_list : ListCommand → Option Value → Reply × Found
act_list c found = (list_reply c found, list_left c found)
