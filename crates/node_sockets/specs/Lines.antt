-- The connections of a port, one for each node.
use Rattle.std.specs.Prelude.{◌≡◌, ◌⊎◌, ◌+◌, ℕ, Bool, false, List, Ok, Err, slice_index_or, slice_set}
use Rattle.cluster_world.specs.Ports.{Answer, Call, Execute, Look, Send}
use Rattle.cluster_admin.specs.declared.port_fault.PortFault.{PortFault}
use Rattle.cluster_admin.specs.declared.port_fault.PortFault.TheVariants.{Io, Memory, Wire}
use Rattle.node_sockets.specs.declared.line.Line.{Line}
use Rattle.node_sockets.specs.declared.line.Line.TheVariants.{Gone, Open, Unopened}
use Rattle.node_sockets.specs.Requests.{look_text, request_text}

-- the connection that a call has: the open one, or a new one
abbrev pub Has : {C : Type 0} → (opens : C → Type 0) → Line C → C → Type 0
Has opens Unopened c = opens c
Has opens (Open had) c = had ≡ c
Has opens Gone c = ⊥

-- There is no connection to ask, and why: it is gone, or it can't be opened, and is gone from then on, or memory for it
-- ran out, and it may be opened yet.
abbrev pub IsNotThere : {C : Type 0} → Line C → PortFault → Line C → Type 0
IsNotThere line Memory line' = (line ≡ Unopened) × (line' ≡ Unopened)
IsNotThere line Io line' = (line ≡ Unopened) × (line' ≡ Gone)
IsNotThere line Wire line' = (line ≡ Gone) × (line' ≡ Gone)

-- a connection was asked, and this is its answer, and the connection after it
abbrev pub IsAsked : {C : Type 0} → (opens : C → Type 0) → (asks : C → Answer → C → Type 0) → Line C → Answer → C
    → Type 0
IsAsked {C} opens asks line answer c' = (c : C) × Has opens line c × asks c answer c'

-- A line of a port is called. On a reply its connection is open from then on; after a fault it is gone, and one that is
-- gone answers Wire. Out of memory comes before anything is written.
abbrev pub Calls : {C : Type 0} → (opens : C → Type 0) → (asks : C → Answer → C → Type 0) → Line C → Answer → Line C
    → Type 0
Calls {C} opens asks line (Ok r) line' = (c' : C) × IsAsked opens asks line (Ok r) c' × (line' ≡ Open c')
Calls {C} opens asks line (Err e) line' = IsNotThere line e line'
    ⊎ ((c' : C) × IsAsked opens asks line (Err e) c' × (line' ≡ Gone))

-- The connections of a port: how one is opened at a port and asked for a request, with ASKING before it or without;
-- the port of the first node; and the lines before a call and after it.
pub record Connections (C : Type 0) : Type 1 where
  pub opens : (port : ℕ) → C → Type 0
  pub asks : (asking : Bool) → (request : List ℕ) → C → Answer → C → Type 0
  pub base_port : ℕ
  pub before : List (Line C)
  pub after : List (Line C)

-- the line of the node is called, at its own port, and the others are as they were
abbrev pub CallsNode : {C : Type 0} → Connections C → (asking : Bool) → (request : List ℕ) → (node : ℕ) → Answer
    → Type 0
CallsNode {C} all asking request n answer = (line : Line C) × (all.after ≡ slice_set all.before n line)
    × Calls (all.opens (all.base_port + n)) (all.asks asking request) (slice_index_or all.before n Gone) answer line

-- the request of a call: its words in the protocol's bytes, after ASKING's where the command is sent with it
abbrev pub request_of : Call → List ℕ
request_of (Execute n asking c) = request_text asking c
request_of (Look n) = look_text

abbrev pub has_asking : Call → Bool
has_asking (Execute n asking c) = asking
has_asking (Look n) = false

abbrev pub node_of : Call → ℕ
node_of (Execute n asking c) = n
node_of (Look n) = n

-- there was no memory for the request, or the line of the node was called with it
abbrev pub IsSent : {C : Type 0} → Connections C → Send → Type 0
IsSent all s = ((s.answer ≡ Err Memory) × (all.after ≡ all.before))
    ⊎ CallsNode all (has_asking s.call) (request_of s.call) (node_of s.call) s.answer
