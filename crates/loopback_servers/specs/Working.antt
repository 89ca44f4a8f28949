-- A worker's sessions: how one is served, and what they leave in the worker's seat.
use Rattle.std.specs.Prelude.{◌≡◌, ◌⊎◌, ◌<◌, ◌++◌, ℕ, zero, suc, List, false, length, slice_index_or}
use Rattle.byte_streams.specs.Streams.{Input, Output}
use Rattle.cluster_world.specs.Worlds.{World}
use Rattle.cluster_world.specs.declared.event.Event.{Event}
use Rattle.live_cluster.specs.Sends.{IsListed}
use Rattle.node_session.specs.Ends.{Served}
use Rattle.node_session.specs.Talk.{Exchange, Lent, Talk}
use Rattle.node_session.specs.declared.session_end.SessionEnd.{SessionEnd}

-- The session of the connection was served with its node: its requests were answered through the port, and their
-- replies written to it.
abbrev pub IsSession : {I O P : Type 0} → Input I → Output O → Lent P → SessionEnd → (sent : ℕ) → Type 0
IsSession reader writer port end sent =
    (reads : ℕ) × (input : List ℕ) × (exchanges : List Exchange) × (out : List ℕ)
    × reader.gave reader.before reads input reader.after
    × Talk port writer
    (record { asking = false; exchanges = exchanges; out = out; sent_before = 0; sent = sent })
    × Served input exchanges out end

-- the same seat, whose calls are those before with more after them
abbrev pub GrowsTo : ℕ × List Event → ℕ × List Event → Type 0
GrowsTo before after = (after.0 ≡ before.0) × ((more : List Event) × (after.1 ≡ before.1 ++ more))

-- of two lists of seats, each of the one grew to that of the other at its place
abbrev pub GrowEach : List (ℕ × List Event) → List (ℕ × List Event) → Type 0
GrowEach before after = (i : ℕ) (d : ℕ × List Event) → i < length before
    → GrowsTo (slice_index_or before i d) (slice_index_or after i d)

-- A session was served through a seat, at a node that there is, and heard no question. Or its node is none of the
-- cluster, and nothing was done.
abbrev pub IsPlain : {I O : Type 0} → (opening : World) → (I → I → Input I) → (O → O → Output O) → ℕ × List Event
    → ℕ × List Event → Type 0
IsPlain {I} {O} opening reader writer before after =
    (before ≡ after)
    ⊎ ((node : ℕ) × (first last : I) × (empty full : O) × (end : SessionEnd) × (sent : ℕ)
    × (node < length opening.nodes)
    × IsSession (reader first last) (writer empty full)
    (record { sends = IsListed; node = node; before = before; after = after }) end sent)

-- so many sessions, one after the other, lead from a seat to a seat
abbrev pub AreSessions : (Session : ℕ × List Event → ℕ × List Event → Type 0) → (count : ℕ) → ℕ × List Event
    → ℕ × List Event → Type 0
AreSessions Session zero before after = before ≡ after
AreSessions Session (suc n) before after =
    (middle : ℕ × List Event) × AreSessions Session n before middle × Session middle after
