-- One of the servers is asked, and what is said where it gives no reply.
use Rattle.std.specs.Prelude.{◌≡◌, ℕ, List, [], Option, Some, Result, Ok, Err, slice_get}
use Rattle.resp2_wire.specs.declared.reply.Reply.{Reply}
use Rattle.server_commands.specs.Spelling.{nodes_request}
use Rattle.server_links.specs.Asking.{AsksAt}
use Rattle.server_links.specs.Limits.{IsWithin, texts_limit}
use Rattle.server_links.specs.Links.{Exchanges, Receives, Sends}
use Rattle.server_links.specs.Streams.{Question, Streams}
use Rattle.server_links.specs.declared.link.Link as link
use Rattle.redis_servers.specs.Saying.{SaysWhy}
use Rattle.redis_servers.specs.declared.port_stop.PortStop.{PortStop}

-- words on why the connection to the node is gone
abbrev pub IsSilent : {I O : Type 0} → (node : ℕ) → List (link.Link I O) → Option (List ℕ) → Type 0
IsSilent {I} {O} n links said = (l : link.Link I O) × (slice_get links n ≡ Some l) × SaysWhy n l.fault said

module _ {I O : Type 0} (by : Streams I O) where
  -- The request goes over the connection of the node, and the others stay as they are. Its reply is within the limit;
  -- or there is a fault, and words on why the connection is gone.
  abbrev pub AsksNode : Question → List (link.Link I O) → (node : ℕ) → Result Reply PortStop → List (link.Link I O) → Type 0
  AsksNode q links n (Ok r) links' =
      AsksAt (Exchanges by q.request) links n (Ok r) links' × IsWithin q.limit r
  AsksNode q links n (Err h) links' =
      AsksAt (Exchanges by q.request) links n (Err h.fault) links' × IsSilent n links' h.said

  -- The same in two: the request is sent, or there is a fault, and words on why the connection is gone.
  abbrev pub SendsTo : (request : List ℕ) → List (link.Link I O) → (node : ℕ) → Result (Unit {0}) PortStop
      → List (link.Link I O) → Type 0
  SendsTo request links n (Ok u) links' = AsksAt (Sends by request) links n (Ok u) links'
  SendsTo request links n (Err h) links' =
      AsksAt (Sends by request) links n (Err h.fault) links' × IsSilent n links' h.said

  -- And its reply is read, in the same way.
  abbrev pub HearsFrom : Question → List (link.Link I O) → (node : ℕ) → Result Reply PortStop → List (link.Link I O)
      → Type 0
  HearsFrom q links n (Ok r) links' = AsksAt (Receives by) links n (Ok r) links' × IsWithin q.limit r
  HearsFrom q links n (Err h) links' = AsksAt (Receives by) links n (Err h.fault) links' × IsSilent n links' h.said

-- what was sent before, whose reply may have so many bytes
abbrev pub sent_question : (limit : ℕ) → Question
sent_question limit = record { request = []; limit = limit }

-- CLUSTER NODES, whose reply is a text
abbrev pub nodes_question : Question
nodes_question = record { request = nodes_request; limit = texts_limit 1 }
