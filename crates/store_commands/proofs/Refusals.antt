-- A command that is answered an error changes nothing.
use Rattle.std.proofs.Common.{◌≡◌, ℕ, ℤ, pos, negsuc, Bool, true, false, List, [], ◌∷◌, map, length, Option, Some, None, Result, Ok, Err, refl, sym, ap, ◌∙◌}
use Rattle.std.specs.FinMap.{get}
use Rattle.std.specs.Fmt.{signed_decimal}
use Rattle.typed_values.specs.Faults.{map_ok}
use Rattle.typed_values.specs.Texts.{append_result, increase_result}
use Rattle.typed_values.specs.Fields.{Fields, fields_set}
use Rattle.typed_values.specs.Elements.{Elements, pushed_front, pushed_back, front, back}
use Rattle.typed_values.specs.Members.{members_added}
use Rattle.typed_values.specs.declared.fault.ValueFault.{ValueFault}
use Rattle.typed_values.specs.declared.value.Value.{Value}
use Rattle.typed_values.specs.declared.value.Value.TheVariants as value
use Rattle.resp2_wire.specs.declared.reply.Reply.{Reply}
use Rattle.store_commands.specs.Replies.{reply_or_refusal, is_error, bulk, truth, count, text_too_long, collection_too_long}
use Rattle.store_commands.specs.Found.{Found, stands, place}
use Rattle.store_commands.specs.TextActs.{act_text, increment_result, integer, checked_neg}
use Rattle.store_commands.specs.HashActs.{act_hash}
use Rattle.store_commands.specs.ListActs.{act_list}
use Rattle.store_commands.specs.SetActs.{act_set, goes_over, both_left}
use Rattle.store_commands.specs.Act.{act, rename_result}
use Rattle.store_commands.specs.Apply.{answer, apply, look_up, put_all}
use Rattle.store_commands.specs.Effects.{IsChange, with_effect}
use Rattle.store_commands.specs.Refusals.{ErrorsChangeNothing}
use Rattle.store_commands.specs.declared.effect.Effect.{Effect}
use Rattle.store_commands.specs.declared.effect.Effect.TheVariants as effect
use Rattle.store_commands.specs.Store.{Store, Key}
use Rattle.client_commands.specs.Commands.{keys}
use Rattle.client_commands.specs.declared.command.Command.{Command}
use Rattle.client_commands.specs.declared.command.Command.TheVariants as command
use Rattle.client_commands.specs.declared.command.TextCommand.{TextCommand}
use Rattle.client_commands.specs.declared.command.TextCommand.TheVariants.{Get, Set, SetNx, Append, StrLen, Incr, Decr, IncrBy, DecrBy}
use Rattle.client_commands.specs.declared.command.HashCommand.{HashCommand}
use Rattle.client_commands.specs.declared.command.HashCommand.TheVariants.{HSet, HGet, HDel, HLen, HExists, HGetAll}
use Rattle.client_commands.specs.declared.command.ListCommand.{ListCommand}
use Rattle.client_commands.specs.declared.command.ListCommand.TheVariants.{LPush, RPush, LPop, RPop, LLen, LRange}
use Rattle.client_commands.specs.declared.command.SetCommand.{SetCommand}
use Rattle.client_commands.specs.declared.command.SetCommand.TheVariants.{SAdd, SRem, SIsMember, SCard, SMembers}

-- where the result of an operation is an error reply, its edit leaves nothing
refused : {X : Type 0} (long : Reply) (f : X → Reply) (h : X → Value) (r : Result X ValueFault) → ((x : X) → is_error (f x) ≡ false) → is_error (reply_or_refusal long f r) ≡ true → stands (map_ok h r) ≡ []
refused long f h (Ok x) fine e = let no = sym (fine x) ∙ e in cc
refused long f h (Err fault) fine e = refl

refused_count : {X : Type 0} (long : Reply) (g : X → ℕ) (h : X → Value) (r : Result X ValueFault) → is_error (reply_or_refusal long count (map_ok g r)) ≡ true → stands (map_ok h r) ≡ []
refused_count long g h (Ok x) e = cc
refused_count long g h (Err fault) e = refl

refused_sum : (long : Reply) (h : List ℕ → Value) (f : ℤ → Reply) (r : Result ℤ ValueFault) → ((z : ℤ) → is_error (f z) ≡ false) → is_error (reply_or_refusal long f r) ≡ true → stands (map_ok h (map_ok signed_decimal r)) ≡ []
refused_sum long h f (Ok z) fine e = let no = sym (fine z) ∙ e in cc
refused_sum long h f (Err fault) fine e = refl

bulk_fine : (o : Option (List ℕ)) → is_error (bulk o) ≡ false
bulk_fine None = refl
bulk_fine (Some t) = refl

text_append : (more : List ℕ) (found : Option Value) → is_error (act_text (Append more) found).0 ≡ true → (act_text (Append more) found).1 ≡ []
text_append more None e = refused text_too_long (λ now. count (length now)) (λ now. value.Text now) (append_result [] more) (λ x. refl) e
text_append more (Some (value.Text t)) e = refused text_too_long (λ now. count (length now)) (λ now. value.Text now) (append_result t more) (λ x. refl) e
text_append more (Some v) e = refl

text_increase : (by : Result ℤ ValueFault) (found : Option Value) → is_error (increment_result by found).0 ≡ true → (increment_result by found).1 ≡ []
text_increase (Err fault) found e = refl
text_increase (Ok z) None e = refused_sum text_too_long (λ now. value.Text now) _ (increase_result (48 ∷ []) z) (λ x. refl) e
text_increase (Ok z) (Some (value.Text t)) e = refused_sum text_too_long (λ now. value.Text now) _ (increase_result t z) (λ x. refl) e
text_increase (Ok z) (Some v) e = refl

text_setnx : (t : List ℕ) (found : Option Value) → is_error (act_text (SetNx t) found).0 ≡ true → (act_text (SetNx t) found).1 ≡ []
text_setnx t None e = cc
text_setnx t (Some v) e = refl

text_refused : (c : TextCommand) (found : Option Value) → is_error (act_text c found).0 ≡ true → (act_text c found).1 ≡ []
text_refused Get found e = refl
text_refused (Set t) found e = cc
text_refused (SetNx t) found e = text_setnx t found e
text_refused (Append more) found e = text_append more found e
text_refused StrLen found e = refl
text_refused Incr found e = text_increase (Ok (pos 1)) found e
text_refused Decr found e = text_increase (Ok (negsuc 0)) found e
text_refused (IncrBy n) found e = text_increase (integer n) found e
text_refused (DecrBy n) found e = text_increase (checked_neg (integer n)) found e

hash_set : (ps : Fields) (found : Option Value) → is_error (act_hash (HSet ps) found).0 ≡ true → (act_hash (HSet ps) found).1 ≡ []
hash_set ps None e = refused_count collection_too_long _ (λ now. value.Hash now) (fields_set [] ps) e
hash_set ps (Some (value.Hash es)) e = refused_count collection_too_long _ (λ now. value.Hash now) (fields_set es ps) e
hash_set ps (Some v) e = refl

hash_delete : (fs : List (List ℕ)) (found : Option Value) → is_error (act_hash (HDel fs) found).0 ≡ true → (act_hash (HDel fs) found).1 ≡ []
hash_delete fs None e = cc
hash_delete fs (Some (value.Hash es)) e = cc
hash_delete fs (Some v) e = refl

hash_refused : (c : HashCommand) (found : Option Value) → is_error (act_hash c found).0 ≡ true → (act_hash c found).1 ≡ []
hash_refused (HSet ps) found e = hash_set ps found e
hash_refused (HGet f) found e = refl
hash_refused (HDel fs) found e = hash_delete fs found e
hash_refused HLen found e = refl
hash_refused (HExists f) found e = refl
hash_refused HGetAll found e = refl

list_front : (xs : Elements) (found : Option Value) → is_error (act_list (LPush xs) found).0 ≡ true → (act_list (LPush xs) found).1 ≡ []
list_front xs None e = refused collection_too_long (λ l. count (length l)) (λ now. value.List now) (pushed_front [] xs) (λ x. refl) e
list_front xs (Some (value.List l)) e = refused collection_too_long (λ m. count (length m)) (λ now. value.List now) (pushed_front l xs) (λ x. refl) e
list_front xs (Some v) e = refl

list_back : (xs : Elements) (found : Option Value) → is_error (act_list (RPush xs) found).0 ≡ true → (act_list (RPush xs) found).1 ≡ []
list_back xs None e = refused collection_too_long (λ l. count (length l)) (λ now. value.List now) (pushed_back [] xs) (λ x. refl) e
list_back xs (Some (value.List l)) e = refused collection_too_long (λ m. count (length m)) (λ now. value.List now) (pushed_back l xs) (λ x. refl) e
list_back xs (Some v) e = refl

list_first : (found : Option Value) → is_error (act_list LPop found).0 ≡ true → (act_list LPop found).1 ≡ []
list_first None e = let no = sym (bulk_fine (front [])) ∙ e in cc
list_first (Some (value.List l)) e = let no = sym (bulk_fine (front l)) ∙ e in cc
list_first (Some v) e = refl

list_last : (found : Option Value) → is_error (act_list RPop found).0 ≡ true → (act_list RPop found).1 ≡ []
list_last None e = let no = sym (bulk_fine (back [])) ∙ e in cc
list_last (Some (value.List l)) e = let no = sym (bulk_fine (back l)) ∙ e in cc
list_last (Some v) e = refl

list_refused : (c : ListCommand) (found : Option Value) → is_error (act_list c found).0 ≡ true → (act_list c found).1 ≡ []
list_refused (LPush xs) found e = list_front xs found e
list_refused (RPush xs) found e = list_back xs found e
list_refused LPop found e = list_first found e
list_refused RPop found e = list_last found e
list_refused LLen found e = refl
list_refused (LRange a b) found e = refl

set_add : (xs : List (List ℕ)) (found : Option Value) → is_error (act_set (SAdd xs) found).0 ≡ true → (act_set (SAdd xs) found).1 ≡ []
set_add xs None e = refused_count collection_too_long _ (λ now. value.Set now) (members_added [] xs) e
set_add xs (Some (value.Set ms)) e = refused_count collection_too_long _ (λ now. value.Set now) (members_added ms xs) e
set_add xs (Some v) e = refl

set_remove : (xs : List (List ℕ)) (found : Option Value) → is_error (act_set (SRem xs) found).0 ≡ true → (act_set (SRem xs) found).1 ≡ []
set_remove xs None e = cc
set_remove xs (Some (value.Set ms)) e = cc
set_remove xs (Some v) e = refl

set_refused : (c : SetCommand) (found : Option Value) → is_error (act_set c found).0 ≡ true → (act_set c found).1 ≡ []
set_refused (SAdd xs) found e = set_add xs found e
set_refused (SRem xs) found e = set_remove xs found e
set_refused (SIsMember m) found e = refl
set_refused SCard found e = refl
set_refused SMembers found e = refl

move_refused : (m : List ℕ) (from to : Option Value) (r : Result Bool ValueFault) → is_error (reply_or_refusal collection_too_long truth r) ≡ true → both_left m from to r ≡ []
move_refused m from to (Ok b) e = cc
move_refused m from to (Err fault) e = refl

rename_refused : (found : Option Value) → is_error (rename_result found).0 ≡ true → (rename_result found).1 ≡ []
rename_refused None e = refl
rename_refused (Some v) e = cc

put_nothing : (s : Store) (ks : List Key) → put_all s ks [] ≡ s
unfolding put_all
put_nothing s [] = refl
put_nothing s (k ∷ ks) = refl

nothing_left : (s : Store) (ks : List Key) (left : Found) → left ≡ [] → put_all s ks left ≡ s
nothing_left s ks left e = ap (put_all s ks) e ∙ put_nothing s ks

pub errors_change_nothing : ErrorsChangeNothing
unfolding answer apply act look_up keys
errors_change_nothing s (command.OnText k c) e = nothing_left s (k ∷ []) _ (text_refused c (get s k) e)
errors_change_nothing s (command.OnHash k c) e = nothing_left s (k ∷ []) _ (hash_refused c (get s k) e)
errors_change_nothing s (command.OnList k c) e = nothing_left s (k ∷ []) _ (list_refused c (get s k) e)
errors_change_nothing s (command.OnSet k c) e = nothing_left s (k ∷ []) _ (set_refused c (get s k) e)
errors_change_nothing s (command.TypeOf k) e = cc
errors_change_nothing s (command.Del ks) e = cc
errors_change_nothing s (command.Exists ks) e = cc
errors_change_nothing s (command.Rename ks) e = nothing_left s ks _ (rename_refused (place 0 (map (λ k. get s k) ks)) e)
errors_change_nothing s (command.MGet ks) e = cc
errors_change_nothing s (command.MSet ps) e = cc
errors_change_nothing s (command.SMove ks m) e =
    let found = map (λ k. get s k) ks in
    nothing_left s ks _ (move_refused m (place 0 found) (place 1 found) (goes_over m (place 0 found) (place 1 found)) e)

-- so nothing is to be done for it
pub stays : (s : Store) (c : Command) (r : Reply) (d : Reply × Effect) → r ≡ answer s c → is_error r ≡ true → d ≡ (r, effect.Nothing) → IsChange s c d
stays s c r d is e made =
    (ap (λ x. x.0) made ∙ is, ap (λ x. with_effect x.1 s) made ∙ sym (errors_change_nothing s c (ap is_error (sym is) ∙ e)))

pub text_stays : (s : Store) (k q : Key) (c : TextCommand) (o : Option Value) (r : Reply) (d : Reply × Effect) → r ≡ (act_text c o).0 → o ≡ get s q → q ≡ k → is_error r ≡ true → d ≡ (r, effect.Nothing)
    → IsChange s (command.OnText k c) d
unfolding answer act look_up keys
text_stays s k q c o r d is found at e made = stays s (command.OnText k c) r d (is ∙ ap (λ p. (act_text c p).0) (found ∙ ap (get s) at)) e made

pub hash_stays : (s : Store) (k q : Key) (c : HashCommand) (o : Option Value) (r : Reply) (d : Reply × Effect) → r ≡ (act_hash c o).0 → o ≡ get s q → q ≡ k → is_error r ≡ true → d ≡ (r, effect.Nothing)
    → IsChange s (command.OnHash k c) d
unfolding answer act look_up keys
hash_stays s k q c o r d is found at e made = stays s (command.OnHash k c) r d (is ∙ ap (λ p. (act_hash c p).0) (found ∙ ap (get s) at)) e made

pub list_stays : (s : Store) (k q : Key) (c : ListCommand) (o : Option Value) (r : Reply) (d : Reply × Effect) → r ≡ (act_list c o).0 → o ≡ get s q → q ≡ k → is_error r ≡ true → d ≡ (r, effect.Nothing)
    → IsChange s (command.OnList k c) d
unfolding answer act look_up keys
list_stays s k q c o r d is found at e made = stays s (command.OnList k c) r d (is ∙ ap (λ p. (act_list c p).0) (found ∙ ap (get s) at)) e made

pub set_stays : (s : Store) (k q : Key) (c : SetCommand) (o : Option Value) (r : Reply) (d : Reply × Effect) → r ≡ (act_set c o).0 → o ≡ get s q → q ≡ k → is_error r ≡ true → d ≡ (r, effect.Nothing)
    → IsChange s (command.OnSet k c) d
unfolding answer act look_up keys
set_stays s k q c o r d is found at e made = stays s (command.OnSet k c) r d (is ∙ ap (λ p. (act_set c p).0) (found ∙ ap (get s) at)) e made
