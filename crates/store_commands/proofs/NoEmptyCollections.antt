-- Commands leave no empty collection.
use Rattle.std.proofs.Common.{◌≡◌, ℤ, pos, negsuc, ℕ, Bool, true, false, cond, if◌then◌else◌, List, [], ◌∷◌, ◌++◌, map, Option, None, Some, Result, Ok, Err, refl, sym, subst}
use Rattle.std.specs.FinMap.{get}
use Rattle.std.specs.List.{AllByRecursion}
use Rattle.typed_values.specs.Values.{is_empty_collection}
use Rattle.typed_values.specs.declared.fault.ValueFault.{ValueFault}
use Rattle.typed_values.specs.declared.value.Value.{Value}
use Rattle.typed_values.specs.declared.edit.Edit.{Edit}
use Rattle.typed_values.specs.declared.edit.Edit.TheVariants as edit
use Rattle.typed_values.specs.declared.edit.TextEdit.TheVariants as text
use Rattle.typed_values.specs.declared.edit.HashEdit.TheVariants.{SetFields, DeleteFields}
use Rattle.typed_values.specs.declared.edit.ListEdit.TheVariants.{PushFront, PushBack, PopFront, PopBack}
use Rattle.typed_values.specs.declared.edit.SetEdit.TheVariants.{AddMembers, RemoveMembers}
use Rattle.store_commands.specs.Act.{act, rename_result, texts_put}
use Rattle.store_commands.specs.Apply.{look_up, apply}
use Rattle.client_commands.specs.Commands.{keys}
use Rattle.store_commands.specs.Found.{Found, place, value_left, stands, edit_left}
use Rattle.store_commands.specs.TextActs.{act_text, set_if_missing, increment_result, integer, checked_neg}
use Rattle.store_commands.specs.HashActs.{hash_left}
use Rattle.store_commands.specs.ListActs.{list_left}
use Rattle.store_commands.specs.SetActs.{set_left, both_left, goes_over}
use Rattle.store_commands.specs.Store.{Store, Key, same_key}
use Rattle.store_commands.specs.NoEmptyCollections.{IsNoEmptyCollection, HasNoEmptyCollection, KeepsNoEmptyCollection}
use Rattle.client_commands.specs.declared.command.Command.{Command}
use Rattle.client_commands.specs.declared.command.Command.TheVariants as command
use Rattle.client_commands.specs.declared.command.TextCommand.{TextCommand}
use Rattle.client_commands.specs.declared.command.TextCommand.TheVariants.{Get, Set, SetNx, Append, StrLen, Incr, Decr, IncrBy, DecrBy}
use Rattle.client_commands.specs.declared.command.HashCommand.{HashCommand}
use Rattle.client_commands.specs.declared.command.HashCommand.TheVariants.{HSet, HGet, HDel, HLen, HExists, HGetAll}
use Rattle.client_commands.specs.declared.command.ListCommand.{ListCommand}
use Rattle.client_commands.specs.declared.command.ListCommand.TheVariants.{LPush, RPush, LPop, RPop, LLen, LRange}
use Rattle.client_commands.specs.declared.command.SetCommand.{SetCommand}
use Rattle.client_commands.specs.declared.command.SetCommand.TheVariants.{SAdd, SRem, SIsMember, SCard, SMembers}
use Rattle.store_commands.proofs.Named.{standing, get-put_all}

abbrev pub AllWhole : Found → Type 0
AllWhole vs = AllByRecursion IsNoEmptyCollection vs

kept_whole : (v : Value) → IsNoEmptyCollection (value_left v)
kept_whole v = elim (is_empty_collection v) as (λ b. is_empty_collection v ≡ b → IsNoEmptyCollection (if b then None else Some v)) [ true ↦ λ e. tt | false ↦ λ e. e ] refl

stands_whole : (r : Result Value ValueFault) → AllWhole (stands r)
stands_whole (Ok v) = (kept_whole v, tt)
stands_whole (Err e) = tt

edit_left_whole : (e : Edit) (found : Option Value) → AllWhole (edit_left e found)
edit_left_whole e found = stands_whole _

set_if_missing_whole : (t : List ℕ) (found : Option Value) → AllWhole (set_if_missing t found).1
set_if_missing_whole t None = (refl, tt)
set_if_missing_whole t (Some v) = tt

increment_whole : (by : Result ℤ ValueFault) (found : Option Value) → AllWhole (increment_result by found).1
increment_whole (Err e) found = tt
increment_whole (Ok z) found = edit_left_whole (edit.Text (text.Increase z)) found

text_whole : (c : TextCommand) (found : Option Value) → AllWhole (act_text c found).1
text_whole Get found = tt
text_whole (Set t) found = (refl, tt)
text_whole (SetNx t) found = set_if_missing_whole t found
text_whole (Append more) found = edit_left_whole (edit.Text (text.Append more)) found
text_whole StrLen found = tt
text_whole Incr found = increment_whole (Ok (pos 1)) found
text_whole Decr found = increment_whole (Ok (negsuc 0)) found
text_whole (IncrBy n) found = increment_whole (integer n) found
text_whole (DecrBy n) found = increment_whole (checked_neg (integer n)) found

hash_whole : (c : HashCommand) (found : Option Value) → AllWhole (hash_left c found)
hash_whole (HSet ps) found = edit_left_whole (edit.Hash (SetFields ps)) found
hash_whole (HGet f) found = tt
hash_whole (HDel fs) found = edit_left_whole (edit.Hash (DeleteFields fs)) found
hash_whole HLen found = tt
hash_whole (HExists f) found = tt
hash_whole HGetAll found = tt

list_whole : (c : ListCommand) (found : Option Value) → AllWhole (list_left c found)
list_whole (LPush xs) found = edit_left_whole (edit.List (PushFront xs)) found
list_whole (RPush xs) found = edit_left_whole (edit.List (PushBack xs)) found
list_whole LPop found = edit_left_whole (edit.List PopFront) found
list_whole RPop found = edit_left_whole (edit.List PopBack) found
list_whole LLen found = tt
list_whole (LRange a b) found = tt

set_whole : (c : SetCommand) (found : Option Value) → AllWhole (set_left c found)
set_whole (SAdd xs) found = edit_left_whole (edit.Set (AddMembers xs)) found
set_whole (SRem xs) found = edit_left_whole (edit.Set (RemoveMembers xs)) found
set_whole (SIsMember m) found = tt
set_whole SCard found = tt
set_whole SMembers found = tt

joined_whole : (vs ws : Found) → AllWhole vs → AllWhole ws → AllWhole (vs ++ ws)
joined_whole [] ws h g = g
joined_whole (v ∷ vs) ws h g = (h.0, joined_whole vs ws h.1 g)

both_whole : (m : List ℕ) (from to : Option Value) (r : Result Bool ValueFault) → AllWhole (both_left m from to r)
both_whole m from to (Ok true) = joined_whole _ _ (edit_left_whole (edit.Set (RemoveMembers (m ∷ []))) from) (edit_left_whole (edit.Set (AddMembers (m ∷ []))) to)
both_whole m from to (Ok false) = tt
both_whole m from to (Err e) = tt

none_whole : (ks : List Key) → AllWhole (map (λ _. None) ks)
none_whole [] = tt
none_whole (k ∷ ks) = (tt, none_whole ks)

texts_whole : (ts : List (List ℕ)) → AllWhole (texts_put ts)
texts_whole [] = tt
texts_whole (t ∷ ts) = (refl, texts_whole ts)

first_whole : (vs : Found) → AllWhole vs → IsNoEmptyCollection (place 0 vs)
first_whole [] h = tt
first_whole (v ∷ vs) h = h.0

rename_whole : (found : Option Value) → IsNoEmptyCollection found → AllWhole (rename_result found).1
rename_whole None h = tt
rename_whole (Some v) h = (tt, (h, tt))

act_whole : (c : Command) (vs : Found) → AllWhole vs → AllWhole (act c vs).1
unfolding act
act_whole (command.OnText k c) vs h = text_whole c (place 0 vs)
act_whole (command.OnHash k c) vs h = hash_whole c (place 0 vs)
act_whole (command.OnList k c) vs h = list_whole c (place 0 vs)
act_whole (command.OnSet k c) vs h = set_whole c (place 0 vs)
act_whole (command.TypeOf k) vs h = tt
act_whole (command.Del ks) vs h = none_whole ks
act_whole (command.Exists ks) vs h = tt
act_whole (command.Rename ks) vs h = rename_whole (place 0 vs) (first_whole vs h)
act_whole (command.MGet ks) vs h = tt
act_whole (command.MSet ps) vs h = texts_whole ps.1
act_whole (command.SMove ks m) vs h = both_whole m (place 0 vs) (place 1 vs) (goes_over m (place 0 vs) (place 1 vs))

look_up_whole : (s : Store) (ks : List Key) → HasNoEmptyCollection s → AllWhole (look_up s ks)
unfolding look_up
look_up_whole s [] h = tt
look_up_whole s (k ∷ ks) h = (h k, look_up_whole s ks h)

chosen_whole : (b : Bool) (v d : Option Value) → IsNoEmptyCollection v → IsNoEmptyCollection d → IsNoEmptyCollection (cond b v d)
chosen_whole true v d h g = h
chosen_whole false v d h g = g

standing_whole : (ks : List Key) (vs : Found) (q : Key) (d : Option Value) → AllWhole vs → IsNoEmptyCollection d → IsNoEmptyCollection (standing ks vs q d)
standing_whole [] vs q d h g = g
standing_whole (k ∷ ks) [] q d h g = g
standing_whole (k ∷ ks) (v ∷ vs) q d h g = standing_whole ks vs q (cond (same_key q k) v d) h.1 (chosen_whole (same_key q k) v d h.0 g)

pub keeps_no_empty_collection : KeepsNoEmptyCollection
unfolding apply
keeps_no_empty_collection s c h q =
    subst IsNoEmptyCollection (sym (get-put_all s (keys c) (act c (look_up s (keys c))).1 q))
    (standing_whole (keys c) (act c (look_up s (keys c))).1 q (get s q) (act_whole c (look_up s (keys c)) (look_up_whole s (keys c) h)) (h q))
