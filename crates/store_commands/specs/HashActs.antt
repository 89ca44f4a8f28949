-- Commands on the hash at a key (the pages HSET, HGET, HDEL, HLEN, HEXISTS, HGETALL of
-- https://redis.io/docs/latest/commands/). A missing hash has no fields, and a value of another kind is reported.
use Rattle.std.specs.Prelude.{[], length, Option, is_some}
use Rattle.typed_values.specs.Fields.{Fields, field, fields_new, fields_gone, names_and_values}
use Rattle.typed_values.specs.declared.value.Value.{Value}
use Rattle.typed_values.specs.declared.edit.HashEdit.TheVariants.{SetFields, DeleteFields}
use Rattle.typed_values.specs.declared.edit.Edit.TheVariants as edit
use Rattle.resp2_wire.specs.declared.reply.Reply.{Reply}
use Rattle.store_commands.specs.Replies.{count, truth, bulk, array, collection_reply}
use Rattle.store_commands.specs.Found.{Found, hash_at, edit_left}
use Rattle.client_commands.specs.declared.command.HashCommand.{HashCommand}
use Rattle.client_commands.specs.declared.command.HashCommand.TheVariants.{HSet, HGet, HDel, HLen, HExists, HGetAll}

-- the reply, for a hash of these fields
abbrev pub hash_reply : HashCommand → Fields → Reply
hash_reply (HSet ps) es = collection_reply count (fields_new es ps)
hash_reply (HGet f) es = bulk (field es f)
hash_reply (HDel fs) es = count (fields_gone es fs)
hash_reply HLen es = count (length es)
hash_reply (HExists f) es = truth (is_some (field es f))
hash_reply HGetAll es = array (names_and_values es)

-- what stands at the key next: with no entry it stays as it is
abbrev pub hash_left : HashCommand → Option Value → Found
hash_left (HSet ps) found = edit_left (edit.Hash (SetFields ps)) found
hash_left (HGet f) found = []
hash_left (HDel fs) found = edit_left (edit.Hash (DeleteFields fs)) found
hash_left HLen found = []
hash_left (HExists f) found = []
hash_left HGetAll found = []

abbrev pub act_hash : HashCommand → Option Value → Reply × Found
act_hash c found = (collection_reply (hash_reply c) (hash_at found), hash_left c found)
