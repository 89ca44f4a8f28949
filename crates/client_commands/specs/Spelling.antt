-- The words that spell a command.
use Rattle.std.specs.Prelude.{◌≡◌, List, [], ◌∷◌, ◌++◌, length}
use Rattle.typed_values.specs.Fields.{Fields}
use Rattle.client_commands.specs.Commands.{Key, Words}
use Rattle.client_commands.specs.Table.{text_of}
use Rattle.client_commands.specs.declared.name.CommandName.TheVariants as name
use Rattle.client_commands.specs.declared.name.TextName.TheVariants as text_name
use Rattle.client_commands.specs.declared.name.HashName.TheVariants as hash_name
use Rattle.client_commands.specs.declared.name.ListName.TheVariants as list_name
use Rattle.client_commands.specs.declared.name.SetName.TheVariants as set_name
use Rattle.client_commands.specs.declared.name.KeysName.TheVariants as keys_name
use Rattle.client_commands.specs.declared.command.Command.{Command}
use Rattle.client_commands.specs.declared.command.Command.TheVariants as command
use Rattle.client_commands.specs.declared.command.TextCommand.{TextCommand}
use Rattle.client_commands.specs.declared.command.TextCommand.TheVariants.{Get, Set, SetNx, Append, StrLen, Incr, Decr}
use Rattle.client_commands.specs.declared.command.TextCommand.TheVariants.{IncrBy, DecrBy}
use Rattle.client_commands.specs.declared.command.HashCommand.{HashCommand}
use Rattle.client_commands.specs.declared.command.HashCommand.TheVariants.{HSet, HGet, HDel, HLen, HExists, HGetAll}
use Rattle.client_commands.specs.declared.command.ListCommand.{ListCommand}
use Rattle.client_commands.specs.declared.command.ListCommand.TheVariants.{LPush, RPush, LPop, RPop, LLen, LRange}
use Rattle.client_commands.specs.declared.command.SetCommand.{SetCommand}
use Rattle.client_commands.specs.declared.command.SetCommand.TheVariants.{SAdd, SRem, SIsMember, SCard, SMembers}

-- pairs, each name before its value
abbrev pub unpaired : Fields → Words
unpaired [] = []
unpaired (p ∷ ps) = p.0 ∷ p.1 ∷ unpaired ps

-- keys, each before the text that stands beside it
abbrev pub alternating : Words → Words → Words
alternating [] values = []
alternating (k ∷ ks) [] = []
alternating (k ∷ ks) (v ∷ vs) = k ∷ v ∷ alternating ks vs

abbrev pub text_words : Key → TextCommand → Words
text_words k Get = text_of (name.OnText text_name.Get) ∷ k ∷ []
text_words k (Set v) = text_of (name.OnText text_name.Set) ∷ k ∷ v ∷ []
text_words k (SetNx v) = text_of (name.OnText text_name.SetNx) ∷ k ∷ v ∷ []
text_words k (Append v) = text_of (name.OnText text_name.Append) ∷ k ∷ v ∷ []
text_words k StrLen = text_of (name.OnText text_name.StrLen) ∷ k ∷ []
text_words k Incr = text_of (name.OnText text_name.Incr) ∷ k ∷ []
text_words k Decr = text_of (name.OnText text_name.Decr) ∷ k ∷ []
text_words k (IncrBy n) = text_of (name.OnText text_name.IncrBy) ∷ k ∷ n ∷ []
text_words k (DecrBy n) = text_of (name.OnText text_name.DecrBy) ∷ k ∷ n ∷ []

abbrev pub hash_words : Key → HashCommand → Words
hash_words k (HSet ps) = text_of (name.OnHash hash_name.HSet) ∷ k ∷ unpaired ps
hash_words k (HGet f) = text_of (name.OnHash hash_name.HGet) ∷ k ∷ f ∷ []
hash_words k (HDel fs) = text_of (name.OnHash hash_name.HDel) ∷ k ∷ fs
hash_words k HLen = text_of (name.OnHash hash_name.HLen) ∷ k ∷ []
hash_words k (HExists f) = text_of (name.OnHash hash_name.HExists) ∷ k ∷ f ∷ []
hash_words k HGetAll = text_of (name.OnHash hash_name.HGetAll) ∷ k ∷ []

abbrev pub list_words : Key → ListCommand → Words
list_words k (LPush xs) = text_of (name.OnList list_name.LPush) ∷ k ∷ xs
list_words k (RPush xs) = text_of (name.OnList list_name.RPush) ∷ k ∷ xs
list_words k LPop = text_of (name.OnList list_name.LPop) ∷ k ∷ []
list_words k RPop = text_of (name.OnList list_name.RPop) ∷ k ∷ []
list_words k LLen = text_of (name.OnList list_name.LLen) ∷ k ∷ []
list_words k (LRange a b) = text_of (name.OnList list_name.LRange) ∷ k ∷ a ∷ b ∷ []

abbrev pub set_words : Key → SetCommand → Words
set_words k (SAdd ms) = text_of (name.OnSet set_name.SAdd) ∷ k ∷ ms
set_words k (SRem ms) = text_of (name.OnSet set_name.SRem) ∷ k ∷ ms
set_words k (SIsMember m) = text_of (name.OnSet set_name.SIsMember) ∷ k ∷ m ∷ []
set_words k SCard = text_of (name.OnSet set_name.SCard) ∷ k ∷ []
set_words k SMembers = text_of (name.OnSet set_name.SMembers) ∷ k ∷ []

-- the command's name and its arguments
abbrev pub spelled : Command → Words
spelled (command.OnText k c) = text_words k c
spelled (command.OnHash k c) = hash_words k c
spelled (command.OnList k c) = list_words k c
spelled (command.OnSet k c) = set_words k c
spelled (command.TypeOf k) = text_of (name.OnKeys keys_name.TypeOf) ∷ k ∷ []
spelled (command.Del ks) = text_of (name.OnKeys keys_name.Del) ∷ ks
spelled (command.Exists ks) = text_of (name.OnKeys keys_name.Exists) ∷ ks
spelled (command.Rename ks) = text_of (name.OnKeys keys_name.Rename) ∷ ks
spelled (command.MGet ks) = text_of (name.OnKeys keys_name.MGet) ∷ ks
spelled (command.MSet ps) = text_of (name.OnKeys keys_name.MSet) ∷ alternating ps.0 ps.1
spelled (command.SMove ks m) = text_of (name.OnKeys keys_name.SMove) ∷ (ks ++ m ∷ [])

-- ---- commands that requests spell

abbrev pub IsFilled : {A : Type 0} → List A → Type 0
IsFilled [] = ⊥
IsFilled (x ∷ xs) = Unit {0}

abbrev pub IsWholeHash : HashCommand → Type 0
IsWholeHash (HSet ps) = IsFilled ps
IsWholeHash (HGet f) = Unit {0}
IsWholeHash (HDel fs) = IsFilled fs
IsWholeHash HLen = Unit {0}
IsWholeHash (HExists f) = Unit {0}
IsWholeHash HGetAll = Unit {0}

abbrev pub IsWholeList : ListCommand → Type 0
IsWholeList (LPush xs) = IsFilled xs
IsWholeList (RPush xs) = IsFilled xs
IsWholeList LPop = Unit {0}
IsWholeList RPop = Unit {0}
IsWholeList LLen = Unit {0}
IsWholeList (LRange a b) = Unit {0}

abbrev pub IsWholeSet : SetCommand → Type 0
IsWholeSet (SAdd ms) = IsFilled ms
IsWholeSet (SRem ms) = IsFilled ms
IsWholeSet (SIsMember m) = Unit {0}
IsWholeSet SCard = Unit {0}
IsWholeSet SMembers = Unit {0}

-- it has an argument wherever one is wanted, and two keys where two are
abbrev pub IsWhole : Command → Type 0
IsWhole (command.OnText k c) = Unit {0}
IsWhole (command.OnHash k c) = IsWholeHash c
IsWhole (command.OnList k c) = IsWholeList c
IsWhole (command.OnSet k c) = IsWholeSet c
IsWhole (command.TypeOf k) = Unit {0}
IsWhole (command.Del ks) = IsFilled ks
IsWhole (command.Exists ks) = IsFilled ks
IsWhole (command.Rename ks) = length ks ≡ 2
IsWhole (command.MGet ks) = IsFilled ks
IsWhole (command.MSet ps) = IsFilled ps.0 × (length ps.0 ≡ length ps.1)
IsWhole (command.SMove ks m) = length ks ≡ 2
