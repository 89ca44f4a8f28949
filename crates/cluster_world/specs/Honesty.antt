-- Honest runs: each ASKING at a node that imports the slot was earned by an ASK since the slot is imported there (Redis
-- Cluster specification, "ASK redirection").
use Rattle.std.specs.Prelude.{◌≡◌, ◌≢◌, ℕ, true, false, ◌⊎◌, List, [], ◌∷◌, None}
use Rattle.store_commands.specs.Store.{Key}
use Rattle.client_commands.specs.Commands.{keys}
use Rattle.slot_marks.specs.Verdicts.{is_cross, first_slot}
use Rattle.slot_marks.specs.declared.verdict.Verdict.TheVariants.{Ask}
use Rattle.cluster_node.specs.Redirections.{redirection}
use Rattle.cluster_admin.specs.declared.admin.AdminCommand.TheVariants.{Importing}
use Rattle.cluster_admin.specs.declared.admin.AdminReply.TheVariants as reply
use Rattle.cluster_world.specs.Worlds.{World, importing}
use Rattle.cluster_world.specs.Steps.{after}
use Rattle.cluster_world.specs.declared.event.Event.{Event}
use Rattle.cluster_world.specs.declared.event.Event.TheVariants.{Client, Admin}

-- the event is no accepted SETSLOT IMPORTING of the slot at the node
abbrev pub IsNoImport : (slot node : ℕ) → Event → Type 0
IsNoImport s n (Admin at (Importing t m) reply.Ok) = at ≡ n → t ≡ s → ⊥
IsNoImport s n event = Unit {0}

-- the event answered these keys with an ASK to the node
abbrev pub IsAsk : (port : ℕ) → List Key → ℕ → Event → Type 0
IsAsk port ks n (Client seat at asking c r) = (keys c ≡ ks) × (r ≡ redirection port (first_slot ks) (Ask n))
IsAsk port ks n event = ⊥

-- an event of the list, the newest first, answered these keys with an ASK to the node, and no SETSLOT IMPORTING of
-- their slot was accepted at that node since
abbrev pub WasAsked : (port : ℕ) → List Event → List Key → ℕ → Type 0
WasAsked port [] ks n = ⊥
WasAsked port (e ∷ past) ks n = IsAsk port ks n e ⊎ (IsNoImport (first_slot ks) n e × WasAsked port past ks n)

-- the event's ASKING was earned, where the node imports the slot
abbrev pub IsEarned : World → List Event → Event → Type 0
IsEarned w past (Client seat n asking c r) = asking ≡ true → is_cross (keys c) ≡ false
    → importing w n (first_slot (keys c)) ≢ None → WasAsked w.base_port past (keys c) n
IsEarned w past event = Unit {0}

-- from the world `first` on, after the events `before`, the newest of them first
abbrev pub Honest : (first : World) (before events : List Event) → Type 0
Honest first before [] = Unit {0}
Honest first before (e ∷ es) = IsEarned first before e × Honest (after first e) (e ∷ before) es

-- these events, the oldest first, after those, the newest first: all of them, the newest first
abbrev pub past_of : (before events : List Event) → List Event
past_of before [] = before
past_of before (e ∷ es) = past_of (e ∷ before) es
