-- The store answers no redirection.
use Rattle.std.proofs.Common.{◌≡◌, ℤ, pos, negsuc, true, List, ℕ, length, Option, None, Some, Result, Ok, Err, refl}
use Rattle.typed_values.specs.Elements.{pushed_front, pushed_back}
use Rattle.typed_values.specs.Fields.{Fields, field, fields_new}
use Rattle.typed_values.specs.Members.{members_new}
use Rattle.typed_values.specs.Numbers.{number}
use Rattle.typed_values.specs.Texts.{append_result, increase_result}
use Rattle.typed_values.specs.Values.{text_of}
use Rattle.typed_values.specs.declared.fault.ValueFault.{ValueFault}
use Rattle.typed_values.specs.declared.fault.ValueFault.TheVariants.{WrongType, NotInteger, Overflow, Memory, TooLong}
use Rattle.typed_values.specs.declared.value.Value.{Value}
use Rattle.resp2_wire.specs.declared.reply.Reply.{Reply}
use Rattle.resp2_wire.specs.declared.reply.Reply.TheVariants.{Number, Bulk}
use Rattle.store_commands.specs.Replies.{count, truth, bulk, reply_or_refusal, length_of, text_too_long, collection_too_long}
use Rattle.store_commands.specs.Found.{Found, place, text_at, counter_at, hash_at, list_at, set_at}
use Rattle.store_commands.specs.TextActs.{act_text, text_or_null, set_if_missing, increment_result, integer, checked_neg}
use Rattle.store_commands.specs.HashActs.{hash_reply}
use Rattle.store_commands.specs.ListActs.{act_list, range_reply}
use Rattle.store_commands.specs.SetActs.{set_reply, goes_over}
use Rattle.store_commands.specs.Act.{act, rename_result}
use Rattle.store_commands.specs.Apply.{answer, look_up}
use Rattle.client_commands.specs.Commands.{keys}
use Rattle.store_commands.specs.NoRedirections.{is_no_redirection, AnswersAreNoRedirections}
use Rattle.client_commands.specs.declared.command.Command.{Command}
use Rattle.client_commands.specs.declared.command.Command.TheVariants as command
use Rattle.client_commands.specs.declared.command.TextCommand.{TextCommand}
use Rattle.client_commands.specs.declared.command.TextCommand.TheVariants.{Get, Set, SetNx, Append, StrLen, Incr, Decr, IncrBy, DecrBy}
use Rattle.client_commands.specs.declared.command.HashCommand.{HashCommand}
use Rattle.client_commands.specs.declared.command.HashCommand.TheVariants.{HSet, HGet, HDel, HLen, HExists, HGetAll}
use Rattle.client_commands.specs.declared.command.ListCommand.{ListCommand}
use Rattle.client_commands.specs.declared.command.ListCommand.TheVariants.{LPush, RPush, LPop, RPop, LLen, LRange}
use Rattle.client_commands.specs.declared.command.SetCommand.{SetCommand}
use Rattle.client_commands.specs.declared.command.SetCommand.TheVariants.{SAdd, SRem, SIsMember, SCard, SMembers}

plain-reply : {X : Type 0} (long : Reply) (f : X → Reply) (r : Result X ValueFault) → is_no_redirection long ≡ true → ((x : X) → is_no_redirection (f x) ≡ true) → is_no_redirection (reply_or_refusal long f r) ≡ true
plain-reply long f (Ok x) l h = h x
plain-reply long f (Err WrongType) l h = refl
plain-reply long f (Err NotInteger) l h = refl
plain-reply long f (Err Overflow) l h = refl
plain-reply long f (Err TooLong) l h = l
plain-reply long f (Err Memory) l h = refl

plain-text : {X : Type 0} (f : X → Reply) (r : Result X ValueFault) → ((x : X) → is_no_redirection (f x) ≡ true) → is_no_redirection (reply_or_refusal text_too_long f r) ≡ true
plain-text f r h = plain-reply text_too_long f r refl h

plain-collection : {X : Type 0} (f : X → Reply) (r : Result X ValueFault) → ((x : X) → is_no_redirection (f x) ≡ true) → is_no_redirection (reply_or_refusal collection_too_long f r) ≡ true
plain-collection f r h = plain-reply collection_too_long f r refl h

plain-bulk : (o : Option (List ℕ)) → is_no_redirection (bulk o) ≡ true
plain-bulk None = refl
plain-bulk (Some t) = refl

-- ---- texts

plain-text_or_null : (found : Option Value) → is_no_redirection (text_or_null found) ≡ true
plain-text_or_null None = refl
plain-text_or_null (Some v) = plain-text (λ t. Bulk t) (text_of v) (λ t. refl)

plain-set_if_missing : (t : List ℕ) (found : Option Value) → is_no_redirection (set_if_missing t found).0 ≡ true
plain-set_if_missing t None = refl
plain-set_if_missing t (Some v) = refl

plain-increment : (by : Result ℤ ValueFault) (found : Option Value) → is_no_redirection (increment_result by found).0 ≡ true
plain-increment (Err e) found = plain-text {X = ℤ} (λ z. Number z) (Err e) (λ z. refl)
plain-increment (Ok z) found = plain-text (λ t. reply_or_refusal text_too_long (λ sum. Number sum) (increase_result t z)) (counter_at found) (λ t. plain-text (λ sum. Number sum) (increase_result t z) (λ sum. refl))

plain-act_text : (c : TextCommand) (found : Option Value) → is_no_redirection (act_text c found).0 ≡ true
plain-act_text Get found = plain-text_or_null found
plain-act_text (Set t) found = refl
plain-act_text (SetNx t) found = plain-set_if_missing t found
plain-act_text (Append more) found = plain-text (λ t. reply_or_refusal text_too_long (λ now. count (length now)) (append_result t more)) (text_at found) (λ t. plain-text (λ now. count (length now)) (append_result t more) (λ now. refl))
plain-act_text StrLen found = plain-text (λ t. count (length t)) (text_at found) (λ t. refl)
plain-act_text Incr found = plain-increment (Ok (pos 1)) found
plain-act_text Decr found = plain-increment (Ok (negsuc 0)) found
plain-act_text (IncrBy n) found = plain-increment (integer n) found
plain-act_text (DecrBy n) found = plain-increment (checked_neg (integer n)) found

-- ---- hashes

plain-hash_reply : (c : HashCommand) (es : Fields) → is_no_redirection (hash_reply c es) ≡ true
plain-hash_reply (HSet ps) es = plain-collection count (fields_new es ps) (λ n. refl)
plain-hash_reply (HGet f) es = plain-bulk (field es f)
plain-hash_reply (HDel fs) es = refl
plain-hash_reply HLen es = refl
plain-hash_reply (HExists f) es = refl
plain-hash_reply HGetAll es = refl

-- ---- lists

plain-length_of : (r : Result (List (List ℕ)) ValueFault) → is_no_redirection (length_of r) ≡ true
plain-length_of r = plain-collection (λ l. count (length l)) r (λ l. refl)

plain-range : (a b : Option ℤ) (found : Option Value) → is_no_redirection (range_reply a b found) ≡ true
plain-range None b found = refl
plain-range (Some a) None found = refl
plain-range (Some a) (Some b) found = plain-collection _ (list_at found) (λ l. refl)

plain-act_list : (c : ListCommand) (found : Option Value) → is_no_redirection (act_list c found).0 ≡ true
plain-act_list (LPush xs) found = plain-collection (λ l. length_of (pushed_front l xs)) (list_at found) (λ l. plain-length_of (pushed_front l xs))
plain-act_list (RPush xs) found = plain-collection (λ l. length_of (pushed_back l xs)) (list_at found) (λ l. plain-length_of (pushed_back l xs))
plain-act_list LPop found = plain-collection _ (list_at found) (λ l. plain-bulk _)
plain-act_list RPop found = plain-collection _ (list_at found) (λ l. plain-bulk _)
plain-act_list LLen found = plain-collection _ (list_at found) (λ l. refl)
plain-act_list (LRange a b) found = plain-range (number a) (number b) found

-- ---- sets

plain-set_reply : (c : SetCommand) (ms : List (List ℕ)) → is_no_redirection (set_reply c ms) ≡ true
plain-set_reply (SAdd xs) ms = plain-collection count (members_new ms xs) (λ n. refl)
plain-set_reply (SRem xs) ms = refl
plain-set_reply (SIsMember m) ms = refl
plain-set_reply SCard ms = refl
plain-set_reply SMembers ms = refl

-- ---- all

plain-rename : (found : Option Value) → is_no_redirection (rename_result found).0 ≡ true
plain-rename None = refl
plain-rename (Some v) = refl

plain-act : (c : Command) (vs : Found) → is_no_redirection (act c vs).0 ≡ true
unfolding act
plain-act (command.OnText k c) vs = plain-act_text c (place 0 vs)
plain-act (command.OnHash k c) vs = plain-collection (hash_reply c) (hash_at (place 0 vs)) (plain-hash_reply c)
plain-act (command.OnList k c) vs = plain-act_list c (place 0 vs)
plain-act (command.OnSet k c) vs = plain-collection (set_reply c) (set_at (place 0 vs)) (plain-set_reply c)
plain-act (command.TypeOf k) vs = refl
plain-act (command.Del ks) vs = refl
plain-act (command.Exists ks) vs = refl
plain-act (command.Rename ks) vs = plain-rename (place 0 vs)
plain-act (command.MGet ks) vs = refl
plain-act (command.MSet ps) vs = refl
plain-act (command.SMove ks m) vs = plain-collection truth (goes_over m (place 0 vs) (place 1 vs)) (λ b. refl)

pub answers_are_no_redirections : AnswersAreNoRedirections
unfolding answer
answers_are_no_redirections s c = plain-act c (look_up s (keys c))
