-- Steps as a server answers them: a listing of a slot may name any of its keys, in any order (the page of CLUSTER
-- GETKEYSINSLOT).
use Rattle.std.specs.Prelude.{◌≡◌, ℕ, ◌<◌, true, List, [], ◌∷◌, length, min}
use Rattle.std.specs.List.{IsDistinct}
use Rattle.store_commands.specs.Store.{Key, Store, same_key, is_named}
use Rattle.slot_keyspace.specs.Listing.{keys_of}
use Rattle.cluster_admin.specs.declared.admin.AdminCommand.{AdminCommand}
use Rattle.cluster_admin.specs.declared.admin.AdminCommand.TheVariants.{KeysIn}
use Rattle.cluster_admin.specs.declared.admin.AdminReply.{AdminReply}
use Rattle.cluster_admin.specs.declared.admin.AdminReply.TheVariants as reply
use Rattle.cluster_world.specs.Worlds.{World, node_at}
use Rattle.cluster_world.specs.Commanding.{admin_reply}
use Rattle.cluster_world.specs.Steps.{Answers, Run, after}
use Rattle.cluster_admin.specs.declared.call.AdminCall.{AdminCall}
use Rattle.cluster_world.specs.declared.event.Event.{Event}
use Rattle.cluster_world.specs.declared.event.Event.TheVariants.{Admin}

-- distinct keys of the slot that stand in the store: as many as are asked for, or all; which of them, and in which
-- order, is free
pub record ListsSlot (store : Store) (slot count : ℕ) (ks : List Key) : Type 0 where
  pub distinct : IsDistinct same_key ks
  pub stand : (k : Key) → is_named k ks ≡ true → is_named k (keys_of store slot) ≡ true
  pub many : length ks ≡ min count (length (keys_of store slot))

-- the replies that a server may give: to a listing such keys, and otherwise the world's reply
abbrev pub MayReply : World → (node : ℕ) → AdminCommand → AdminReply → Type 0
MayReply w n (KeysIn slot count) r =
    (ks : List Key) × (r ≡ reply.Keys ks) × ListsSlot (node_at w n).held slot count ks
MayReply w n command r = r ≡ admin_reply w n command

-- the event's node is there, and its reply is one that a server may give
abbrev pub AnswersAsServer : World → Event → Type 0
AnswersAsServer w (Admin n c r) = (n < length w.nodes) × MayReply w n c r
AnswersAsServer w event = Answers w event

-- events chained; the world after each is that of a step
abbrev pub ServerRun : World → List Event → World → Type 0
ServerRun w [] last = last ≡ w
ServerRun w (e ∷ es) last = AnswersAsServer w e × ServerRun (after w e) es last

-- a step by a call of the administrator, for a port to servers
abbrev pub by_server_call : World → AdminCall → World → Type 0
by_server_call w c next = AnswersAsServer w (Admin c.node c.command c.reply)
    × (next ≡ after w (Admin c.node c.command c.reply))

-- the world's own reply is one of them, so every run is such a run
abbrev pub WorldMayReply : Type 0
WorldMayReply = (w : World) (node : ℕ) (c : AdminCommand) → MayReply w node c (admin_reply w node c)

abbrev pub RunsAreServerRuns : Type 0
RunsAreServerRuns = (first : World) (events : List Event) (last : World) → Run first events last
    → ServerRun first events last
