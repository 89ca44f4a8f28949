-- What each command means: from what stands at its keys to the reply and to what stands there after it.
use Rattle.std.specs.Prelude.{ℕ, List, [], ◌∷◌, map, fold, length, codes, Option, Some, None}
use Rattle.typed_values.specs.Members.{with_member}
use Rattle.typed_values.specs.Values.{kind}
use Rattle.typed_values.specs.declared.value.Value.{Value}
use Rattle.typed_values.specs.declared.value.Value.TheVariants as value
use Rattle.resp2_wire.specs.View.{trees}
use Rattle.resp2_wire.specs.declared.reply.Reply.{Reply}
use Rattle.resp2_wire.specs.declared.reply.Reply.TheVariants.{Simple, Bulk, Null, Array}
use Rattle.store_commands.specs.Store.{Key}
use Rattle.store_commands.specs.Replies.{ok, count, no_such_key}
use Rattle.store_commands.specs.Found.{Found, place}
use Rattle.store_commands.specs.TextActs.{act_text}
use Rattle.store_commands.specs.HashActs.{act_hash}
use Rattle.store_commands.specs.ListActs.{act_list}
use Rattle.store_commands.specs.SetActs.{act_set, member_moved}
use Rattle.client_commands.specs.declared.command.Command.{Command}
use Rattle.client_commands.specs.declared.command.Command.TheVariants as command

-- MGET, https://redis.io/docs/latest/commands/mget/: Null for a key that is missing or holds no text
abbrev pub text_if_one : Option Value → Reply
text_if_one (Some (value.Text t)) = Bulk t
text_if_one other = Null

-- TYPE, https://redis.io/docs/latest/commands/type/
abbrev pub kind_at : Option Value → List ℕ
kind_at None = codes "none"
kind_at (Some v) = kind v

-- the keys at which something stands
abbrev pub present : List Key → Found → List Key
present [] vs = []
present (k ∷ ks) [] = []
present (k ∷ ks) (None ∷ vs) = present ks vs
present (k ∷ ks) (Some v ∷ vs) = k ∷ present ks vs

-- the keys, each once
abbrev pub each_once : List Key → List Key
each_once ks = fold with_member [] ks

-- RENAME, https://redis.io/docs/latest/commands/rename/: for two equal keys the second entry counts, which is the value
-- as it is
abbrev pub rename_result : Option Value → Reply × Found
rename_result None = (no_such_key, [])
rename_result (Some v) = (ok, None ∷ Some v ∷ [])

abbrev pub texts_put : List (List ℕ) → Found
texts_put ts = map (λ t. Some (value.Text t)) ts

-- A command's whole meaning. A key with no entry in the second list stays as it is; of a key named twice the last entry
-- counts.
unfoldable pub act : Command → Found → Reply × Found
act (command.OnText k c) vs = act_text c (place 0 vs)
act (command.OnHash k c) vs = act_hash c (place 0 vs)
act (command.OnList k c) vs = act_list c (place 0 vs)
act (command.OnSet k c) vs = act_set c (place 0 vs)
act (command.TypeOf k) vs = (Simple (kind_at (place 0 vs)), [])
act (command.Del ks) vs = (count (length (each_once (present ks vs))), map (λ _. None) ks)
act (command.Exists ks) vs = (count (length (present ks vs)), [])
act (command.Rename ks) vs = rename_result (place 0 vs)
act (command.MGet ks) vs = (Array (trees (map text_if_one vs)), [])
act (command.MSet ps) vs = (ok, texts_put ps.1)
act (command.SMove ks m) vs = member_moved m (place 0 vs) (place 1 vs)
