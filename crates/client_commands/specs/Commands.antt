-- Commands: their arguments, and the keys that they name (the commands' pages).
use Rattle.std.specs.Prelude.{ℕ, List, [], ◌∷◌, map, length, Result, Ok, Err, Option, Some, None, option_map}
use Rattle.std.specs.Prelude.{if◌then◌else◌}
use Rattle.typed_values.specs.Fields.{Fields}
use Rattle.byte_texts.specs.Outcomes.{UnlessMemory}
use Rattle.client_commands.specs.Faults.{is_memory}
use Rattle.client_commands.specs.Table.{Row, row_of, accepts}
use Rattle.client_commands.specs.declared.name.CommandName.{CommandName}
use Rattle.client_commands.specs.declared.name.CommandName.TheVariants as name
use Rattle.client_commands.specs.declared.name.TextName.{TextName}
use Rattle.client_commands.specs.declared.name.TextName.TheVariants as text_name
use Rattle.client_commands.specs.declared.name.HashName.{HashName}
use Rattle.client_commands.specs.declared.name.HashName.TheVariants as hash_name
use Rattle.client_commands.specs.declared.name.ListName.{ListName}
use Rattle.client_commands.specs.declared.name.ListName.TheVariants as list_name
use Rattle.client_commands.specs.declared.name.SetName.{SetName}
use Rattle.client_commands.specs.declared.name.SetName.TheVariants as set_name
use Rattle.client_commands.specs.declared.name.KeysName.{KeysName}
use Rattle.client_commands.specs.declared.name.KeysName.TheVariants as keys_name
use Rattle.client_commands.specs.declared.command.Command.{Command}
use Rattle.client_commands.specs.declared.command.Command.TheVariants as command
use Rattle.client_commands.specs.declared.command.TextCommand.{TextCommand}
use Rattle.client_commands.specs.declared.command.TextCommand.TheVariants.{Get, Set, SetNx, Append, StrLen, Incr, Decr}
use Rattle.client_commands.specs.declared.command.TextCommand.TheVariants.{IncrBy, DecrBy}
use Rattle.client_commands.specs.declared.command.HashCommand.{HashCommand}
use Rattle.client_commands.specs.declared.command.HashCommand.TheVariants.{HSet, HGet, HDel, HLen, HExists, HGetAll}
use Rattle.client_commands.specs.declared.command.ListCommand.{ListCommand}
use Rattle.client_commands.specs.declared.command.ListCommand.TheVariants.{LPush, RPush, LPop, RPop, LLen, LRange}
use Rattle.client_commands.specs.declared.command.SetCommand.{SetCommand}
use Rattle.client_commands.specs.declared.command.SetCommand.TheVariants.{SAdd, SRem, SIsMember, SCard, SMembers}
use Rattle.client_commands.specs.declared.fault.CommandFault.{CommandFault}
use Rattle.client_commands.specs.declared.fault.CommandFault.TheVariants.{Unknown, ArgumentCount}

-- Redis keys, the section "Redis keys" of the data types page
abbrev pub Key : Type 0
Key = List ℕ

abbrev pub Words : Type 0
Words = List (List ℕ)

-- a command of no further argument, of one, of two, of one at least, and of pairs, one at least
abbrev pub of_none : {C : Type 0} → C → Words → Result C CommandFault
of_none c [] = Ok c
of_none c rest = Err ArgumentCount

abbrev pub of_one : {C : Type 0} → (List ℕ → C) → Words → Result C CommandFault
of_one make (a ∷ []) = Ok (make a)
of_one make rest = Err ArgumentCount

abbrev pub of_two : {C : Type 0} → (List ℕ → List ℕ → C) → Words → Result C CommandFault
of_two make (a ∷ b ∷ []) = Ok (make a b)
of_two make rest = Err ArgumentCount

abbrev pub of_some : {C : Type 0} → (Words → C) → Words → Result C CommandFault
of_some make (a ∷ rest) = Ok (make (a ∷ rest))
of_some make [] = Err ArgumentCount

abbrev pub paired : Words → Option Fields
paired [] = Some []
paired (a ∷ []) = None
paired (a ∷ b ∷ rest) = option_map (λ ps. (a, b) ∷ ps) (paired rest)

abbrev pub of_paired : {C : Type 0} → (Fields → C) → Option Fields → Result C CommandFault
of_paired make (Some (p ∷ ps)) = Ok (make (p ∷ ps))
of_paired make (Some []) = Err ArgumentCount
of_paired make None = Err ArgumentCount

abbrev pub of_pairs : {C : Type 0} → (Fields → C) → Words → Result C CommandFault
of_pairs make rest = of_paired make (paired rest)

-- what is done to the value at a key, for these arguments after the key
abbrev pub text_command : TextName → Words → Result TextCommand CommandFault
text_command text_name.Get = of_none Get
text_command text_name.Set = of_one (λ t. Set t)
text_command text_name.SetNx = of_one (λ t. SetNx t)
text_command text_name.Append = of_one (λ t. Append t)
text_command text_name.StrLen = of_none StrLen
text_command text_name.Incr = of_none Incr
text_command text_name.Decr = of_none Decr
text_command text_name.IncrBy = of_one (λ n. IncrBy n)
text_command text_name.DecrBy = of_one (λ n. DecrBy n)

abbrev pub hash_command : HashName → Words → Result HashCommand CommandFault
hash_command hash_name.HSet = of_pairs (λ ps. HSet ps)
hash_command hash_name.HGet = of_one (λ f. HGet f)
hash_command hash_name.HDel = of_some (λ fs. HDel fs)
hash_command hash_name.HLen = of_none HLen
hash_command hash_name.HExists = of_one (λ f. HExists f)
hash_command hash_name.HGetAll = of_none HGetAll

abbrev pub list_command : ListName → Words → Result ListCommand CommandFault
list_command list_name.LPush = of_some (λ xs. LPush xs)
list_command list_name.RPush = of_some (λ xs. RPush xs)
list_command list_name.LPop = of_none LPop
list_command list_name.RPop = of_none RPop
list_command list_name.LLen = of_none LLen
list_command list_name.LRange = of_two (λ a b. LRange a b)

abbrev pub set_command : SetName → Words → Result SetCommand CommandFault
set_command set_name.SAdd = of_some (λ ms. SAdd ms)
set_command set_name.SRem = of_some (λ ms. SRem ms)
set_command set_name.SIsMember = of_one (λ m. SIsMember m)
set_command set_name.SCard = of_none SCard
set_command set_name.SMembers = of_none SMembers

-- SMOVE's two keys and a member
abbrev pub member_move : Words → Result Command CommandFault
member_move (k ∷ j ∷ m ∷ []) = Ok (command.SMove (k ∷ j ∷ []) m)
member_move rest = Err ArgumentCount

abbrev pub keys_command : KeysName → Words → Result Command CommandFault
keys_command keys_name.TypeOf = of_one (λ k. command.TypeOf k)
keys_command keys_name.Del = of_some (λ ks. command.Del ks)
keys_command keys_name.Exists = of_some (λ ks. command.Exists ks)
keys_command keys_name.Rename = of_two (λ k j. command.Rename (k ∷ j ∷ []))
keys_command keys_name.MGet = of_some (λ ks. command.MGet ks)
keys_command keys_name.MSet = of_pairs (λ ps. command.MSet (map (λ p. p.0) ps, map (λ p. p.1) ps))
keys_command keys_name.SMove = member_move

abbrev pub with_key : {C : Type 0} → (Key → C → Command) → Key → Result C CommandFault → Result Command CommandFault
with_key make k (Ok c) = Ok (make k c)
with_key make k (Err e) = Err e

-- the command of this at the key that comes first
abbrev pub at_first : {C : Type 0} → (Key → C → Command) → (Words → Result C CommandFault) → Words
    → Result Command CommandFault
at_first make rest_of [] = Err ArgumentCount
at_first make rest_of (k ∷ rest) = with_key make k (rest_of rest)

-- the command of a name with these arguments, if it takes so many
abbrev pub with_arguments : CommandName → Words → Result Command CommandFault
with_arguments (name.OnText n) = at_first (λ k c. command.OnText k c) (text_command n)
with_arguments (name.OnHash n) = at_first (λ k c. command.OnHash k c) (hash_command n)
with_arguments (name.OnList n) = at_first (λ k c. command.OnList k c) (list_command n)
with_arguments (name.OnSet n) = at_first (λ k c. command.OnSet k c) (set_command n)
with_arguments (name.OnKeys n) = keys_command n

-- the command of a row with these arguments
abbrev pub in_row : Option Row → Words → Result Command CommandFault
in_row None rest = Err Unknown
in_row (Some row) rest = if accepts row.arity (length rest) then with_arguments row.name rest else Err ArgumentCount

-- what a request is read as, by the table
abbrev pub command_of : Words → Result Command CommandFault
command_of [] = Err Unknown
command_of (word ∷ rest) = in_row (row_of word) rest

-- this is what a request is read as, unless out of memory
abbrev pub ReadsAs : Words → Result Command CommandFault → Type 0
ReadsAs request = UnlessMemory is_memory (λ c. c) (command_of request)

-- the keys that a command names, in order, repeated ones repeated
unfoldable pub keys : Command → List Key
keys (command.OnText k c) = k ∷ []
keys (command.OnHash k c) = k ∷ []
keys (command.OnList k c) = k ∷ []
keys (command.OnSet k c) = k ∷ []
keys (command.TypeOf k) = k ∷ []
keys (command.Del ks) = ks
keys (command.Exists ks) = ks
keys (command.Rename ks) = ks
keys (command.MGet ks) = ks
keys (command.MSet ps) = ps.0
keys (command.SMove ks m) = ks
