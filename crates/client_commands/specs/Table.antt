-- The table of commands: what their names are, how many arguments they take, and what Redis 7.0 tells of them.
use Rattle.std.specs.Prelude.{ℕ, Bool, false, List, [], ◌∷◌, Option, Some, None, nat_le, ◌==◌, codes}
use Rattle.std.specs.List.{find}
use Rattle.std.specs.Str.{str_eq_ignore_ascii_case}
use Rattle.client_commands.specs.Flags.{reads, reads_fast, writes, writes_fast, grows, grows_fast}
use Rattle.client_commands.specs.KeyRanges.{one_key, two_keys, all_keys, every_other}
use Rattle.client_commands.specs.Names.{is_name}
use Rattle.client_commands.specs.declared.flag.Flag.{Flag}
use Rattle.client_commands.specs.declared.key_range.KeyRange.{KeyRange}
use Rattle.client_commands.specs.declared.table.Arity.{Arity}
use Rattle.client_commands.specs.declared.table.Arity.TheVariants.{Exactly, AtLeast}
use Rattle.client_commands.specs.declared.name.CommandName.{CommandName}
use Rattle.client_commands.specs.declared.name.CommandName.TheVariants.{OnText, OnHash, OnList, OnSet, OnKeys}
use Rattle.client_commands.specs.declared.name.TextName.TheVariants.{Get, Set, SetNx, Append, StrLen, Incr, Decr}
use Rattle.client_commands.specs.declared.name.TextName.TheVariants.{IncrBy, DecrBy}
use Rattle.client_commands.specs.declared.name.HashName.TheVariants.{HSet, HGet, HDel, HLen, HExists, HGetAll}
use Rattle.client_commands.specs.declared.name.ListName.TheVariants.{LPush, RPush, LPop, RPop, LLen, LRange}
use Rattle.client_commands.specs.declared.name.SetName.TheVariants.{SAdd, SRem, SIsMember, SCard, SMembers}
use Rattle.client_commands.specs.declared.name.KeysName.TheVariants.{TypeOf, Del, Exists, Rename, MGet, MSet, SMove}

-- a command's name, how many arguments it takes and the command, where its keys are, its flags, and of its page the
-- group, the first version that has it, and what it does
pub record Row : Type 0 where
  pub text : List ℕ
  pub arity : Arity
  pub name : CommandName
  pub keys : KeyRange
  pub flags : List Flag
  pub group : List ℕ
  pub since : List ℕ
  pub summary : List ℕ

abbrev row : List ℕ → Arity → CommandName → KeyRange → List Flag → (group since summary : List ℕ) → Row
row t a n k f g s d =
    record { text = t; arity = a; name = n; keys = k; flags = f; group = g; since = s; summary = d }

abbrev string_group : List ℕ
string_group = codes "string"

abbrev hash_group : List ℕ
hash_group = codes "hash"

abbrev list_group : List ℕ
list_group = codes "list"

abbrev set_group : List ℕ
set_group = codes "set"

abbrev generic_group : List ℕ
generic_group = codes "generic"

-- every command (https://redis.io/docs/latest/commands/), one in a row
unfoldable pub rows : List Row
rows =
    row (codes "get") (Exactly 1) (OnText Get) one_key reads_fast string_group (codes "1.0.0")
    (codes "Get the value of a key") ∷
    row (codes "set") (Exactly 2) (OnText Set) one_key grows string_group (codes "1.0.0")
    (codes "Set the string value of a key") ∷
    row (codes "setnx") (Exactly 2) (OnText SetNx) one_key grows_fast string_group (codes "1.0.0")
    (codes "Set the value of a key, only if the key does not exist") ∷
    row (codes "append") (Exactly 2) (OnText Append) one_key grows_fast string_group (codes "2.0.0")
    (codes "Append a value to a key") ∷
    row (codes "strlen") (Exactly 1) (OnText StrLen) one_key reads_fast string_group (codes "2.2.0")
    (codes "Get the length of the value stored in a key") ∷
    row (codes "incr") (Exactly 1) (OnText Incr) one_key grows_fast string_group (codes "1.0.0")
    (codes "Increment the integer value of a key by one") ∷
    row (codes "decr") (Exactly 1) (OnText Decr) one_key grows_fast string_group (codes "1.0.0")
    (codes "Decrement the integer value of a key by one") ∷
    row (codes "incrby") (Exactly 2) (OnText IncrBy) one_key grows_fast string_group (codes "1.0.0")
    (codes "Increment the integer value of a key by the given amount") ∷
    row (codes "decrby") (Exactly 2) (OnText DecrBy) one_key grows_fast string_group (codes "1.0.0")
    (codes "Decrement the integer value of a key by the given number") ∷
    row (codes "hset") (AtLeast 3) (OnHash HSet) one_key grows_fast hash_group (codes "2.0.0")
    (codes "Set the string value of a hash field") ∷
    row (codes "hget") (Exactly 2) (OnHash HGet) one_key reads_fast hash_group (codes "2.0.0")
    (codes "Get the value of a hash field") ∷
    row (codes "hdel") (AtLeast 2) (OnHash HDel) one_key writes_fast hash_group (codes "2.0.0")
    (codes "Delete one or more hash fields") ∷
    row (codes "hlen") (Exactly 1) (OnHash HLen) one_key reads_fast hash_group (codes "2.0.0")
    (codes "Get the number of fields in a hash") ∷
    row (codes "hexists") (Exactly 2) (OnHash HExists) one_key reads_fast hash_group (codes "2.0.0")
    (codes "Determine if a hash field exists") ∷
    row (codes "hgetall") (Exactly 1) (OnHash HGetAll) one_key reads hash_group (codes "2.0.0")
    (codes "Get all the fields and values in a hash") ∷
    row (codes "lpush") (AtLeast 2) (OnList LPush) one_key grows_fast list_group (codes "1.0.0")
    (codes "Prepend one or multiple elements to a list") ∷
    row (codes "rpush") (AtLeast 2) (OnList RPush) one_key grows_fast list_group (codes "1.0.0")
    (codes "Append one or multiple elements to a list") ∷
    row (codes "lpop") (Exactly 1) (OnList LPop) one_key writes_fast list_group (codes "1.0.0")
    (codes "Remove and get the first elements in a list") ∷
    row (codes "rpop") (Exactly 1) (OnList RPop) one_key writes_fast list_group (codes "1.0.0")
    (codes "Remove and get the last elements in a list") ∷
    row (codes "llen") (Exactly 1) (OnList LLen) one_key reads_fast list_group (codes "1.0.0")
    (codes "Get the length of a list") ∷
    row (codes "lrange") (Exactly 3) (OnList LRange) one_key reads list_group (codes "1.0.0")
    (codes "Get a range of elements from a list") ∷
    row (codes "sadd") (AtLeast 2) (OnSet SAdd) one_key grows_fast set_group (codes "1.0.0")
    (codes "Add one or more members to a set") ∷
    row (codes "srem") (AtLeast 2) (OnSet SRem) one_key writes_fast set_group (codes "1.0.0")
    (codes "Remove one or more members from a set") ∷
    row (codes "sismember") (Exactly 2) (OnSet SIsMember) one_key reads_fast set_group (codes "1.0.0")
    (codes "Determine if a given value is a member of a set") ∷
    row (codes "scard") (Exactly 1) (OnSet SCard) one_key reads_fast set_group (codes "1.0.0")
    (codes "Get the number of members in a set") ∷
    row (codes "smembers") (Exactly 1) (OnSet SMembers) one_key reads set_group (codes "1.0.0")
    (codes "Get all the members in a set") ∷
    row (codes "type") (Exactly 1) (OnKeys TypeOf) one_key reads_fast generic_group (codes "1.0.0")
    (codes "Determine the type stored at key") ∷
    row (codes "del") (AtLeast 1) (OnKeys Del) all_keys writes generic_group (codes "1.0.0") (codes "Delete a key") ∷
    row (codes "exists") (AtLeast 1) (OnKeys Exists) all_keys reads_fast generic_group (codes "1.0.0")
    (codes "Determine if a key exists") ∷
    row (codes "rename") (Exactly 2) (OnKeys Rename) two_keys writes generic_group (codes "1.0.0")
    (codes "Rename a key") ∷
    row (codes "mget") (AtLeast 1) (OnKeys MGet) all_keys reads_fast string_group (codes "1.0.0")
    (codes "Get the values of all the given keys") ∷
    row (codes "mset") (AtLeast 2) (OnKeys MSet) every_other grows string_group (codes "1.0.1")
    (codes "Set multiple keys to multiple values") ∷
    row (codes "smove") (Exactly 3) (OnKeys SMove) two_keys writes_fast set_group (codes "1.0.0")
    (codes "Move a member from one set to another") ∷
    []

-- the row of the command with this name, without regard to ASCII case
unfoldable pub row_of : List ℕ → Option Row
row_of word = find (λ r. str_eq_ignore_ascii_case word r.text) rows

abbrev pub text_or_none : Option Row → List ℕ
text_or_none None = []
text_or_none (Some r) = r.text

-- how a command is named in its row
unfoldable pub text_of : CommandName → List ℕ
text_of name = text_or_none (find (λ r. is_name r.name name) rows)

-- whether so many arguments may stand after the name
abbrev pub accepts : Arity → ℕ → Bool
accepts (Exactly n) arguments = arguments == n
accepts (AtLeast n) arguments = nat_le n arguments
