-- Whole runs of calls that were answered: what goes to each server.
use Rattle.std.specs.Prelude.{◌≡◌, ℕ, ◌<◌, Bool, true, false, cond, ◌==◌, List, [], ◌∷◌, ◌++◌, Option, Some, None}
use Rattle.std.specs.Prelude.{length, slice_get}
use Rattle.cluster_admin.specs.declared.admin.AdminFault.{AdminFault}
use Rattle.cluster_admin.specs.declared.call.AdminCall.{AdminCall}
use Rattle.server_commands.specs.Spelling.{nodes_request, request_of}
use Rattle.server_links.specs.declared.link.Link as link
use Rattle.redis_servers.specs.Calls.{is_refusal, unsent_fault}
use Rattle.redis_servers.specs.Looking.{role_request}
use Rattle.redis_servers.specs.Ports.{Moves}
use Rattle.redis_servers.specs.declared.port.ServersPort as port
use Rattle.redis_servers.specs.declared.setup.PortSetup.{PortSetup}
use Rattle.server_links.specs.Streams.{Streams}

-- CLUSTER NODES and ROLE, in this order
abbrev pub look : (at_role : Bool) → List ℕ
look true = role_request
look false = nodes_request

abbrev pub looks : (at_roles : List Bool) → List ℕ
looks [] = []
looks (b ∷ bs) = look b ++ looks bs

-- what goes to the server n for the sake of a call itself: its spelling, where it is the server that is called
abbrev pub sent_unless : Option AdminFault → (here : Bool) → (request : List ℕ) → List ℕ
sent_unless (Some f) here request = []
sent_unless None here request = cond here request []

abbrev pub sent_to : PortSetup → (n : ℕ) → AdminCall → List ℕ
sent_to x n c = sent_unless (unsent_fault (length x.book) c.node c.command) (c.node == n)
    (request_of x.book x.timeout x.credentials c.command)

-- The bytes are the spellings of the calls to the server n, in their order. Before and after each call CLUSTER NODES
-- and ROLE may stand.
abbrev pub AreSpellings : PortSetup → (n : ℕ) → List AdminCall → (bytes : List ℕ) → Type 0
AreSpellings x n [] bytes = bytes ≡ []
AreSpellings x n (c ∷ cs) bytes = (before : List Bool) × (after : List Bool) × (rest : List ℕ)
    × (bytes ≡ looks before ++ (sent_to x n c ++ (looks after ++ rest))) × AreSpellings x n cs rest

-- no call but the last one was refused
abbrev pub GoOn : List AdminCall → Type 0
GoOn [] = Unit {0}
GoOn (c ∷ []) = Unit {0}
GoOn (c ∷ (next ∷ cs)) = (is_refusal c.reply ≡ false) × GoOn (next ∷ cs)

module _ {I O : Type 0} (by : Streams I O) where
  -- calls, one after the other, from one state of the port to another
  abbrev pub Runs : {P : Type 0} → port.ServersPort I O P → List AdminCall → port.ServersPort I O P → Type 0
  Runs p [] q = q ≡ p
  Runs {P} p (c ∷ cs) q = (mid : port.ServersPort I O P) × Moves by p c mid × Runs mid cs q

  -- between these states the connection n took these bytes
  abbrev pub Takes : List (link.Link I O) → (n : ℕ) → List ℕ → List (link.Link I O) → Type 0
  Takes links n bytes links' = (l : link.Link I O) × (l' : link.Link I O)
      × (slice_get links n ≡ Some l) × (slice_get links' n ≡ Some l') × by.took l.wire.writer bytes l'.wire.writer

  -- Over a run each server's connection takes the spellings of the calls to that server, in their order, and nothing
  -- else but CLUSTER NODES and ROLE; and no call but the last one was refused.
  abbrev pub RunsWriteSpellings : (P : Type 0) → Type 0
  RunsWriteSpellings P = (p q : port.ServersPort I O P) (calls : List AdminCall)
      → length p.links.items ≡ length p.setup.book
      → Runs p calls q → GoOn calls × ((n : ℕ) → n < length p.setup.book → (bytes : List ℕ)
      × Takes p.links.items n bytes q.links.items × AreSpellings p.setup n calls bytes)
