-- What spells a command is read as it.
use Rattle.std.proofs.Common.{◌≡◌, ◌∙◌, ◌++◌, ◌≤◌, ℕ, true, List, [], ◌∷◌, length, map, Some, option_map, Result, Ok, Err, refl, ap, nat_le, arith, Bool, false, subst, sym, Option, None}
use Rattle.std.specs.Prelude.{if◌then◌else◌, IfOk}
use Rattle.std.proofs.lemmas.List.{length-map}
use Rattle.typed_values.specs.Fields.{Fields}
use Rattle.client_commands.specs.Table.{Row, accepts, rows, row_of, text_of}
use Rattle.client_commands.specs.Commands.{Key, Words, at_first, command_of, hash_command, in_row, keys_command, list_command, member_move, of_none, of_one, of_paired, of_pairs, of_some, of_two, paired, set_command, text_command, with_arguments, with_key}
use Rattle.client_commands.specs.Spelling.{IsFilled, IsWhole, IsWholeHash, IsWholeList, IsWholeSet, alternating, hash_words, list_words, set_words, spelled, text_words, unpaired}
use Rattle.client_commands.specs.declared.fault.CommandFault.{CommandFault}
use Rattle.client_commands.specs.declared.fault.CommandFault.TheVariants.{ArgumentCount, Unknown}
use Rattle.client_commands.specs.declared.command.Command.{Command}
use Rattle.client_commands.specs.declared.command.Command.TheVariants as command
use Rattle.client_commands.specs.declared.command.TextCommand.{TextCommand}
use Rattle.client_commands.specs.declared.command.TextCommand.TheVariants.{Get, Set, SetNx, Append, StrLen, Incr, Decr, IncrBy, DecrBy}
use Rattle.client_commands.specs.declared.command.HashCommand.{HashCommand}
use Rattle.client_commands.specs.declared.command.HashCommand.TheVariants.{HSet, HGet, HDel, HLen, HExists, HGetAll}
use Rattle.client_commands.specs.declared.command.ListCommand.{ListCommand}
use Rattle.client_commands.specs.declared.command.ListCommand.TheVariants.{LPush, RPush, LPop, RPop, LLen, LRange}
use Rattle.client_commands.specs.declared.command.SetCommand.{SetCommand}
use Rattle.client_commands.specs.declared.command.SetCommand.TheVariants.{SAdd, SRem, SIsMember, SCard, SMembers}
use Rattle.client_commands.specs.declared.name.CommandName.{CommandName}
use Rattle.client_commands.specs.declared.name.CommandName.TheVariants as name
use Rattle.client_commands.specs.declared.name.HashName.{HashName}
use Rattle.client_commands.specs.declared.name.HashName.TheVariants as hash_name
use Rattle.client_commands.specs.declared.name.ListName.{ListName}
use Rattle.client_commands.specs.declared.name.ListName.TheVariants as list_name
use Rattle.client_commands.specs.declared.name.SetName.{SetName}
use Rattle.client_commands.specs.declared.name.SetName.TheVariants as set_name
use Rattle.client_commands.specs.declared.name.KeysName.{KeysName}
use Rattle.client_commands.specs.declared.name.KeysName.TheVariants as keys_name
use Rattle.client_commands.specs.declared.table.Arity.{Arity}
use Rattle.client_commands.specs.declared.table.Arity.TheVariants.{AtLeast}

-- ---- a row that takes so many arguments

abbrev arity_and_name : Row → Arity × CommandName
arity_and_name r = (r.arity, r.name)

abbrev by_pair : Option (Arity × CommandName) → Words → Result Command CommandFault
by_pair None rest = Err Unknown
by_pair (Some p) rest = if accepts p.0 (length rest) then with_arguments p.1 rest else Err ArgumentCount

in_pair : (o : Option Row) (rest : Words) → in_row o rest ≡ by_pair (option_map arity_and_name o) rest
in_pair None rest = refl
in_pair (Some r) rest = refl

at_least : (n m : ℕ) → n ≤ m → nat_le n m ≡ true
at_least n m h = grind (arith, h)

taken : (n : ℕ) (made : CommandName) (rest : Words) (c : Command)
    → option_map arity_and_name (row_of (text_of made)) ≡ Some (AtLeast n, made)
    → n ≤ length rest → with_arguments made rest ≡ Ok c → command_of (text_of made ∷ rest) ≡ Ok c
taken n made rest c is some read =
    in_pair (row_of (text_of made)) rest ∙ ap (λ o. by_pair o rest) is
    ∙ ap (λ b. if b then with_arguments made rest else Err ArgumentCount) (at_least n (length rest) some) ∙ read

-- ---- pairs, and keys beside values

paired_again : (ps : Fields) → paired (unpaired ps) ≡ Some ps
paired_again [] = refl
paired_again (p ∷ ps) = ap (option_map (λ qs. (p.0, p.1) ∷ qs)) (paired_again ps)

-- the pairs of keys and values, of which there are as many
pub record Zipped (ks vs : Words) : Type 0 where
  pub pairs : Fields
  pub are : paired (alternating ks vs) ≡ Some pairs
  pub keys : map (λ p. p.0) pairs ≡ ks
  pub values : map (λ p. p.1) pairs ≡ vs

zipped : (ks vs : Words) → length ks ≡ length vs → Zipped ks vs
zipped [] [] h = record { pairs = []; are = refl; keys = refl; values = refl }
zipped [] (v ∷ vs) h = absurd (omega (arith, h))
zipped (k ∷ ks) [] h = absurd (omega (arith, h))
zipped (k ∷ ks) (v ∷ vs) h =
    let z = zipped ks vs (omega (arith, h)) in
    record {
      pairs = (k, v) ∷ z.pairs;
      are = ap (option_map (λ ps. (k, v) ∷ ps)) z.are;
      keys = ap (λ xs. k ∷ xs) z.keys;
      values = ap (λ xs. v ∷ xs) z.values;
    }

-- ---- each command

text_read : (k : Key) (c : TextCommand) → command_of (text_words k c) ≡ Ok (command.OnText k c)
unfolding row_of rows text_of
text_read k Get = refl
text_read k (Set v) = refl
text_read k (SetNx v) = refl
text_read k (Append v) = refl
text_read k StrLen = refl
text_read k Incr = refl
text_read k Decr = refl
text_read k (IncrBy n) = refl
text_read k (DecrBy n) = refl

hash_read : (k : Key) (c : HashCommand) → IsWholeHash c → command_of (hash_words k c) ≡ Ok (command.OnHash k c)
unfolding row_of rows text_of
hash_read k (HSet []) h = absurd h
hash_read k (HSet (p ∷ ps)) h =
    taken 3 (name.OnHash hash_name.HSet) (k ∷ p.0 ∷ p.1 ∷ unpaired ps) (command.OnHash k (HSet (p ∷ ps))) refl (omega arith)
    (ap (λ o. with_key (λ k c. command.OnHash k c) k (of_paired (λ qs. HSet qs) (option_map (λ qs. (p.0, p.1) ∷ qs) o))) (paired_again ps))
hash_read k (HGet f) h = refl
hash_read k (HDel []) h = absurd h
hash_read k (HDel (f ∷ fs)) h = taken 2 (name.OnHash hash_name.HDel) (k ∷ f ∷ fs) (command.OnHash k (HDel (f ∷ fs))) refl (omega arith) refl
hash_read k HLen h = refl
hash_read k (HExists f) h = refl
hash_read k HGetAll h = refl

list_read : (k : Key) (c : ListCommand) → IsWholeList c → command_of (list_words k c) ≡ Ok (command.OnList k c)
unfolding row_of rows text_of
list_read k (LPush []) h = absurd h
list_read k (LPush (x ∷ xs)) h = taken 2 (name.OnList list_name.LPush) (k ∷ x ∷ xs) (command.OnList k (LPush (x ∷ xs))) refl (omega arith) refl
list_read k (RPush []) h = absurd h
list_read k (RPush (x ∷ xs)) h = taken 2 (name.OnList list_name.RPush) (k ∷ x ∷ xs) (command.OnList k (RPush (x ∷ xs))) refl (omega arith) refl
list_read k LPop h = refl
list_read k RPop h = refl
list_read k LLen h = refl
list_read k (LRange a b) h = refl

set_read : (k : Key) (c : SetCommand) → IsWholeSet c → command_of (set_words k c) ≡ Ok (command.OnSet k c)
unfolding row_of rows text_of
set_read k (SAdd []) h = absurd h
set_read k (SAdd (m ∷ ms)) h = taken 2 (name.OnSet set_name.SAdd) (k ∷ m ∷ ms) (command.OnSet k (SAdd (m ∷ ms))) refl (omega arith) refl
set_read k (SRem []) h = absurd h
set_read k (SRem (m ∷ ms)) h = taken 2 (name.OnSet set_name.SRem) (k ∷ m ∷ ms) (command.OnSet k (SRem (m ∷ ms))) refl (omega arith) refl
set_read k (SIsMember m) h = refl
set_read k SCard h = refl
set_read k SMembers h = refl

del_read : (ks : Words) → IsFilled ks → command_of (text_of (name.OnKeys keys_name.Del) ∷ ks) ≡ Ok (command.Del ks)
unfolding row_of rows text_of
del_read [] h = absurd h
del_read (k ∷ ks) h = taken 1 (name.OnKeys keys_name.Del) (k ∷ ks) (command.Del (k ∷ ks)) refl (omega arith) refl

exists_read : (ks : Words) → IsFilled ks → command_of (text_of (name.OnKeys keys_name.Exists) ∷ ks) ≡ Ok (command.Exists ks)
unfolding row_of rows text_of
exists_read [] h = absurd h
exists_read (k ∷ ks) h = taken 1 (name.OnKeys keys_name.Exists) (k ∷ ks) (command.Exists (k ∷ ks)) refl (omega arith) refl

mget_read : (ks : Words) → IsFilled ks → command_of (text_of (name.OnKeys keys_name.MGet) ∷ ks) ≡ Ok (command.MGet ks)
unfolding row_of rows text_of
mget_read [] h = absurd h
mget_read (k ∷ ks) h = taken 1 (name.OnKeys keys_name.MGet) (k ∷ ks) (command.MGet (k ∷ ks)) refl (omega arith) refl

mset_read : (ks vs : Words) → IsFilled ks → length ks ≡ length vs → command_of (text_of (name.OnKeys keys_name.MSet) ∷ alternating ks vs) ≡ Ok (command.MSet (ks, vs))
unfolding row_of rows text_of
mset_read [] vs some h = absurd some
mset_read (k ∷ ks) [] some h = absurd (omega (arith, h))
mset_read (k ∷ ks) (v ∷ vs) some h =
    let z = zipped ks vs (omega (arith, h)) in
    taken 2 (name.OnKeys keys_name.MSet) (k ∷ v ∷ alternating ks vs) (command.MSet (k ∷ ks, v ∷ vs)) refl (omega arith)
    (ap (λ o. of_paired (λ ps. command.MSet (map (λ p. p.0) ps, map (λ p. p.1) ps)) (option_map (λ ps. (k, v) ∷ ps) o)) z.are
    ∙ ap (λ xs. Ok (command.MSet (k ∷ xs, v ∷ map (λ p. p.1) z.pairs))) z.keys
    ∙ ap (λ xs. Ok (command.MSet (k ∷ ks, v ∷ xs))) z.values)

rename_read : (ks : Words) → length ks ≡ 2 → command_of (text_of (name.OnKeys keys_name.Rename) ∷ ks) ≡ Ok (command.Rename ks)
unfolding row_of rows text_of
rename_read [] h = absurd (omega (arith, h))
rename_read (k ∷ []) h = absurd (omega (arith, h))
rename_read (k ∷ j ∷ []) h = refl
rename_read (k ∷ j ∷ l ∷ ks) h = absurd (omega (arith, h))

smove_read : (ks : Words) (m : List ℕ) → length ks ≡ 2 → command_of (text_of (name.OnKeys keys_name.SMove) ∷ (ks ++ m ∷ [])) ≡ Ok (command.SMove ks m)
unfolding row_of rows text_of
smove_read [] m h = absurd (omega (arith, h))
smove_read (k ∷ []) m h = absurd (omega (arith, h))
smove_read (k ∷ j ∷ []) m h = refl
smove_read (k ∷ j ∷ l ∷ ks) m h = absurd (omega (arith, h))

type_read : (k : Key) → command_of (text_of (name.OnKeys keys_name.TypeOf) ∷ k ∷ []) ≡ Ok (command.TypeOf k)
unfolding row_of rows text_of
type_read k = refl

pub spelled_is_read : (c : Command) → IsWhole c → command_of (spelled c) ≡ Ok c
spelled_is_read (command.OnText k c) h = text_read k c
spelled_is_read (command.OnHash k c) h = hash_read k c h
spelled_is_read (command.OnList k c) h = list_read k c h
spelled_is_read (command.OnSet k c) h = set_read k c h
spelled_is_read (command.TypeOf k) h = type_read k
spelled_is_read (command.Del ks) h = del_read ks h
spelled_is_read (command.Exists ks) h = exists_read ks h
spelled_is_read (command.Rename ks) h = rename_read ks h
spelled_is_read (command.MGet ks) h = mget_read ks h
spelled_is_read (command.MSet ps) h = mset_read ps.0 ps.1 h.0 h.1
spelled_is_read (command.SMove ks m) h = smove_read ks m h

-- ---- whatever is read has an argument wherever one is wanted

ok_is : {A E : Type 0} (a b : A) → ◌≡◌ {A = Result A E} (Ok a) (Ok b) → a ≡ b
ok_is {A} {E} a b e = ap from e
  where
    from : Result A E → A
    from (Ok x) = x
    from (Err x) = a

module _ {C : Type 0} (good : C → Type 0) where
  none_whole : (c : C) → good c → (ws : Words) (d : C) → of_none c ws ≡ Ok d → good d
  none_whole c ok [] d e = subst good (ok_is c d e) ok
  none_whole c ok (a ∷ ws) d e = absurd cc

  one_whole : (make : List ℕ → C) → ((a : List ℕ) → good (make a)) → (ws : Words) (d : C) → of_one make ws ≡ Ok d → good d
  one_whole make ok [] d e = absurd cc
  one_whole make ok (a ∷ []) d e = subst good (ok_is (make a) d e) (ok a)
  one_whole make ok (a ∷ b ∷ ws) d e = absurd cc

  two_whole : (make : List ℕ → List ℕ → C) → ((a b : List ℕ) → good (make a b)) → (ws : Words) (d : C) → of_two make ws ≡ Ok d → good d
  two_whole make ok [] d e = absurd cc
  two_whole make ok (a ∷ []) d e = absurd cc
  two_whole make ok (a ∷ b ∷ []) d e = subst good (ok_is (make a b) d e) (ok a b)
  two_whole make ok (a ∷ b ∷ x ∷ ws) d e = absurd cc

  some_whole : (make : Words → C) → ((a : List ℕ) (rest : Words) → good (make (a ∷ rest))) → (ws : Words) (d : C) → of_some make ws ≡ Ok d → good d
  some_whole make ok [] d e = absurd cc
  some_whole make ok (a ∷ ws) d e = subst good (ok_is (make (a ∷ ws)) d e) (ok a ws)

  pairs_whole : (make : Fields → C) → ((p : List ℕ × List ℕ) (ps : Fields) → good (make (p ∷ ps))) → (ws : Words) (d : C) → of_pairs make ws ≡ Ok d → good d
  pairs_whole make ok ws d e = by (paired ws) e
    where
      by : (o : Option Fields) → of_paired make o ≡ Ok d → good d
      by (Some (p ∷ ps)) e = subst good (ok_is (make (p ∷ ps)) d e) (ok p ps)
      by (Some []) e = absurd cc
      by None e = absurd cc

  at_key_whole : (make : Key → C → Command) → ((k : Key) (d : C) → good d → IsWhole (make k d)) → (f : Words → Result C CommandFault)
      → ((ws : Words) (d : C) → f ws ≡ Ok d → good d) → (ws : Words) (c : Command) → at_first make f ws ≡ Ok c → IsWhole c
  at_key_whole make ok f each [] c e = absurd cc
  at_key_whole make ok f each (k ∷ rest) c e = by (f rest) refl e
    where
      by : (r : Result C CommandFault) → f rest ≡ r → with_key make k r ≡ Ok c → IsWhole c
      by (Ok d) is e = subst IsWhole (ok_is (make k d) c e) (ok k d (each rest d is))
      by (Err x) is e = absurd cc

hash_whole : (n : HashName) (ws : Words) (d : HashCommand) → hash_command n ws ≡ Ok d → IsWholeHash d
hash_whole hash_name.HSet = pairs_whole IsWholeHash (λ ps. HSet ps) (λ p ps. tt)
hash_whole hash_name.HGet = one_whole IsWholeHash (λ f. HGet f) (λ f. tt)
hash_whole hash_name.HDel = some_whole IsWholeHash (λ fs. HDel fs) (λ f fs. tt)
hash_whole hash_name.HLen = none_whole IsWholeHash HLen tt
hash_whole hash_name.HExists = one_whole IsWholeHash (λ f. HExists f) (λ f. tt)
hash_whole hash_name.HGetAll = none_whole IsWholeHash HGetAll tt

list_whole : (n : ListName) (ws : Words) (d : ListCommand) → list_command n ws ≡ Ok d → IsWholeList d
list_whole list_name.LPush = some_whole IsWholeList (λ xs. LPush xs) (λ x xs. tt)
list_whole list_name.RPush = some_whole IsWholeList (λ xs. RPush xs) (λ x xs. tt)
list_whole list_name.LPop = none_whole IsWholeList LPop tt
list_whole list_name.RPop = none_whole IsWholeList RPop tt
list_whole list_name.LLen = none_whole IsWholeList LLen tt
list_whole list_name.LRange = two_whole IsWholeList (λ a b. LRange a b) (λ a b. tt)

set_whole : (n : SetName) (ws : Words) (d : SetCommand) → set_command n ws ≡ Ok d → IsWholeSet d
set_whole set_name.SAdd = some_whole IsWholeSet (λ ms. SAdd ms) (λ m ms. tt)
set_whole set_name.SRem = some_whole IsWholeSet (λ ms. SRem ms) (λ m ms. tt)
set_whole set_name.SIsMember = one_whole IsWholeSet (λ m. SIsMember m) (λ m. tt)
set_whole set_name.SCard = none_whole IsWholeSet SCard tt
set_whole set_name.SMembers = none_whole IsWholeSet SMembers tt

move_whole : (ws : Words) (c : Command) → member_move ws ≡ Ok c → IsWhole c
move_whole [] c e = absurd cc
move_whole (k ∷ []) c e = absurd cc
move_whole (k ∷ j ∷ []) c e = absurd cc
move_whole (k ∷ j ∷ m ∷ []) c e = subst IsWhole (ok_is (command.SMove (k ∷ j ∷ []) m) c e) refl
move_whole (k ∷ j ∷ m ∷ n ∷ ws) c e = absurd cc

as_long : (p : List ℕ × List ℕ) (ps : Fields) → length (map (λ p. p.0) (p ∷ ps)) ≡ length (map (λ p. p.1) (p ∷ ps))
as_long p ps = length-map (p ∷ ps) (λ p. p.0) ∙ sym (length-map (p ∷ ps) (λ p. p.1))

keys_whole : (n : KeysName) (ws : Words) (c : Command) → keys_command n ws ≡ Ok c → IsWhole c
keys_whole keys_name.TypeOf = one_whole IsWhole (λ k. command.TypeOf k) (λ k. tt)
keys_whole keys_name.Del = some_whole IsWhole (λ ks. command.Del ks) (λ k ks. tt)
keys_whole keys_name.Exists = some_whole IsWhole (λ ks. command.Exists ks) (λ k ks. tt)
keys_whole keys_name.Rename = two_whole IsWhole (λ k j. command.Rename (k ∷ j ∷ [])) (λ k j. refl)
keys_whole keys_name.MGet = some_whole IsWhole (λ ks. command.MGet ks) (λ k ks. tt)
keys_whole keys_name.MSet = pairs_whole IsWhole (λ ps. command.MSet (map (λ p. p.0) ps, map (λ p. p.1) ps)) (λ p ps. (tt, as_long p ps))
keys_whole keys_name.SMove = move_whole

named_whole : (n : CommandName) (ws : Words) (c : Command) → with_arguments n ws ≡ Ok c → IsWhole c
named_whole (name.OnText n) = at_key_whole (λ d. Unit {0}) (λ k c. command.OnText k c) (λ k d u. tt) (text_command n) (λ ws d e. tt)
named_whole (name.OnHash n) = at_key_whole IsWholeHash (λ k c. command.OnHash k c) (λ k d h. h) (hash_command n) (hash_whole n)
named_whole (name.OnList n) = at_key_whole IsWholeList (λ k c. command.OnList k c) (λ k d h. h) (list_command n) (list_whole n)
named_whole (name.OnSet n) = at_key_whole IsWholeSet (λ k c. command.OnSet k c) (λ k d h. h) (set_command n) (set_whole n)
named_whole (name.OnKeys n) = keys_whole n

row_whole : (o : Option Row) (ws : Words) (c : Command) → in_row o ws ≡ Ok c → IsWhole c
row_whole None ws c e = absurd cc
row_whole (Some r) ws c e = by (accepts r.arity (length ws)) e
  where
    by : (b : Bool) → (if b then with_arguments r.name ws else Err ArgumentCount) ≡ Ok c → IsWhole c
    by true e = named_whole r.name ws c e
    by false e = absurd cc

read_whole : (ws : Words) (c : Command) → command_of ws ≡ Ok c → IsWhole c
read_whole [] c e = absurd cc
read_whole (w ∷ ws) c e = row_whole (row_of w) ws c e

pub read_again : {E : Type 0} (c : Command) (r : Result Words E) → IfOk r (λ ws. ws ≡ spelled c)
    → (request : Words) → command_of request ≡ Ok c → IfOk r (λ ws. command_of ws ≡ Ok c)
read_again c (Ok ws) is request read = ap command_of is ∙ spelled_is_read c (read_whole request c read)
read_again c (Err e) is request read = tt
