-- Commands on the set at a key (the pages SADD, SREM, SISMEMBER, SCARD, SMEMBERS of
-- https://redis.io/docs/latest/commands/). A missing set has no members, and a value of another kind is reported.
use Rattle.std.specs.Prelude.{ℕ, Bool, true, false, List, [], ◌∷◌, ◌++◌, length, Option, Some, None, Result, Ok, Err}
use Rattle.std.specs.Prelude.{if◌then◌else◌}
use Rattle.typed_values.specs.Members.{has, members_new, members_gone, members_added}
use Rattle.typed_values.specs.Faults.{map_ok}
use Rattle.typed_values.specs.Values.{set_of}
use Rattle.typed_values.specs.declared.fault.ValueFault.{ValueFault}
use Rattle.typed_values.specs.declared.value.Value.{Value}
use Rattle.typed_values.specs.declared.edit.SetEdit.TheVariants.{AddMembers, RemoveMembers}
use Rattle.typed_values.specs.declared.edit.Edit.TheVariants as edit
use Rattle.resp2_wire.specs.declared.reply.Reply.{Reply}
use Rattle.store_commands.specs.Replies.{count, truth, array, collection_reply}
use Rattle.store_commands.specs.Found.{Found, set_at, edit_left}
use Rattle.client_commands.specs.declared.command.SetCommand.{SetCommand}
use Rattle.client_commands.specs.declared.command.SetCommand.TheVariants.{SAdd, SRem, SIsMember, SCard, SMembers}

-- the reply, for a set of these members
abbrev pub set_reply : SetCommand → List (List ℕ) → Reply
set_reply (SAdd xs) ms = collection_reply count (members_new ms xs)
set_reply (SRem xs) ms = count (members_gone ms xs)
set_reply (SIsMember m) ms = truth (has ms m)
set_reply SCard ms = count (length ms)
set_reply SMembers ms = array ms

-- what stands at the key next: with no entry it stays as it is
abbrev pub set_left : SetCommand → Option Value → Found
set_left (SAdd xs) found = edit_left (edit.Set (AddMembers xs)) found
set_left (SRem xs) found = edit_left (edit.Set (RemoveMembers xs)) found
set_left (SIsMember m) found = []
set_left SCard found = []
set_left SMembers found = []

abbrev pub act_set : SetCommand → Option Value → Reply × Found
act_set c found = (collection_reply (set_reply c) (set_at found), set_left c found)

-- SMOVE, https://redis.io/docs/latest/commands/smove/: whether the member goes over, or why it cannot.
-- That the first set is missing is reported before the second is looked at.
abbrev pub goes_between : List ℕ → Result (List (List ℕ)) ValueFault → Result (List (List ℕ)) ValueFault
    → Result Bool ValueFault
goes_between m (Ok from) (Ok to) = if has from m then map_ok (λ _. true) (members_added to (m ∷ [])) else Ok false
goes_between m (Ok from) (Err e) = Err e
goes_between m (Err e) to = Err e

abbrev pub goes_over : List ℕ → Option Value → Option Value → Result Bool ValueFault
goes_over m None to = Ok false
goes_over m (Some from) to = goes_between m (set_of from) (set_at to)

-- The member leaves the first and comes to the second. For two equal keys the second entry counts, which is the set as
-- it is.
abbrev pub both_left : List ℕ → Option Value → Option Value → Result Bool ValueFault → Found
both_left m from to (Ok true) = edit_left (edit.Set (RemoveMembers (m ∷ []))) from
    ++ edit_left (edit.Set (AddMembers (m ∷ []))) to
both_left m from to (Ok false) = []
both_left m from to (Err e) = []

abbrev pub member_moved : List ℕ → Option Value → Option Value → Reply × Found
member_moved m from to = (collection_reply truth (goes_over m from to), both_left m from to (goes_over m from to))
