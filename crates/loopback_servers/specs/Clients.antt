-- The clients whose questions are told of: their IDs, and the sessions of a worker, one after the other.
use Rattle.std.specs.Prelude.{◌≡◌, ◌⊎◌, ℕ, zero, suc, ◌+◌, ◌%◌, ◌^◌, ◌<◌, ◌≤◌, Bool, List, [], ◌∷◌, ◌++◌, Option, cond}
use Rattle.std.specs.Prelude.{Some, None, length}
use Rattle.byte_streams.specs.Streams.{Input, Output}
use Rattle.cluster_world.specs.Worlds.{World}
use Rattle.cluster_world.specs.declared.event.Event.{Event}
use Rattle.node_session.specs.declared.session_end.SessionEnd.{SessionEnd}
use Rattle.client_questions.specs.Questions.{is_question}
use Rattle.client_questions.specs.declared.caller.Caller.{Caller}
use Rattle.live_cluster.specs.Sends.{IsListed}
use Rattle.loopback_servers.specs.Asking.{IsToldSession, Tells}
use Rattle.loopback_servers.specs.Working.{AreSessions, IsPlain}

-- the ID of a worker's next client
abbrev pub id_after : ℕ → ℕ
id_after id = (id + 32) % 2 ^ 64

-- the ID of a worker's client, where so many came before it
abbrev pub id_at : (first before : ℕ) → ℕ
id_at first zero = first
id_at first (suc n) = id_after (id_at first n)

-- Of the 32 workers, whose first clients have the IDs 1 to 32, no two clients have one ID.
abbrev pub IdsDiffer : Type 0
IdsDiffer = (first other n m : ℕ) → 1 ≤ first → first ≤ 32 → 1 ≤ other → other ≤ 32 → n < 2 ^ 58 → m < 2 ^ 58
    → id_at first n ≡ id_at other m → (first ≡ other) × (n ≡ m)

-- the ID of the first client of each of so many workers: 1 and so on where questions are told of, and none otherwise
abbrev pub firsts : (told : Bool) → (workers : ℕ) → List (Option ℕ)
firsts told zero = []
firsts told (suc n) = firsts told n ++ cond told (Some (n + 1)) None ∷ []

-- The session of a client with this ID, and no name yet, was served through a seat, at a node that there is. Or its
-- node is none of the cluster, and nothing was done.
abbrev pub IsClient : {I O : Type 0} → (opening : World) → (I → I → Input I) → (O → O → Output O) → (id : ℕ)
    → ℕ × List Event → ℕ × List Event → Type 0
IsClient {I} {O} opening reader writer id before after =
    (before ≡ after)
    ⊎ ((node : ℕ) × (first last : I) × (empty full : O) × (caller : Caller) × (end : SessionEnd) × (sent : ℕ)
    × (node < length opening.nodes)
    × IsToldSession (reader first last) (writer empty full)
    (record { sends = IsListed; node = node; before = before; after = after })
    (record { hears = is_question; tells = Tells opening node; before = record { id = id; name = [] }; after = caller })
    end sent)

-- so many clients, one after the other, each with the next ID, lead from a seat to a seat
abbrev pub AreClients : (Client : (id : ℕ) → ℕ × List Event → ℕ × List Event → Type 0) → (first count : ℕ)
    → ℕ × List Event → ℕ × List Event → Type 0
AreClients Client first zero before after = before ≡ after
AreClients Client first (suc n) before after = (middle : ℕ × List Event) × AreClients Client first n before middle
    × Client (id_at first n) middle after

-- What a worker does: from a first ID on it tells of its clients' questions, and without one it hears none.
abbrev pub Works : {I O : Type 0} → (opening : World) → (I → I → Input I) → (O → O → Output O) → (first : Option ℕ)
    → ℕ × List Event → ℕ × List Event → Type 0
Works opening reader writer None before after =
    (count : ℕ) × AreSessions (IsPlain opening reader writer) count before after
Works opening reader writer (Some first) before after =
    (count : ℕ) × AreClients (IsClient opening reader writer) first count before after
