-- A connection that is gone for good after its first fault.
use Rattle.std.specs.Prelude.{◌≡◌, ◌≢◌, ◌⊎◌, ℕ, Bool, false, List, [], Option, None, Some, Result, Ok}
use Rattle.std.specs.Prelude.{Err}
use Rattle.server_links.specs.Exchanges.{Answer, Asks, IsBegun}
use Rattle.cluster_admin.specs.declared.port_fault.PortFault.{PortFault}
use Rattle.cluster_admin.specs.declared.port_fault.PortFault.TheVariants.{Io, Memory, Wire}
use Rattle.resp2_wire.specs.View.{tree}
use Rattle.resp2_wire.specs.declared.reply.Reply.{Reply}
use Rattle.server_commands.specs.Answers.{lets_in}
use Rattle.server_links.specs.Faults.{port_fault}
use Rattle.server_links.specs.LongLists.{GivesList}
use Rattle.server_links.specs.LongTexts.{GivesText}
use Rattle.server_links.specs.Replies.{IsAnswered}
use Rattle.server_links.specs.Sources.{source}
use Rattle.server_links.specs.Streams.{Streams}
use Rattle.server_links.specs.declared.link.Link as link
use Rattle.server_links.specs.declared.link_fault.LinkFault.{LinkFault}
use Rattle.server_links.specs.declared.list_reply.ListReply.{ListReply}
use Rattle.server_links.specs.declared.text_reply.TextReply.{TextReply}

-- it is not gone, a prefix of the request is written, and from then on it is gone by a fault, which is told as this one
abbrev pub Breaks : {I O : Type 0} → (took : O → List ℕ → O → Type 0) → (request : List ℕ) → link.Link I O → PortFault
    → link.Link I O → Type 0
Breaks took request l f l' = (l.fault ≡ None) × IsBegun took request l.wire.writer l'.wire.writer
    × ((e : LinkFault) × (l'.fault ≡ Some e) × (f ≡ port_fault e))

-- A request goes over a connection. On a reply the whole of it was written, and the reply is what was read, with
-- nothing after it; on a fault a prefix of it was written, and the connection is gone. One that is gone answers Wire,
-- and stays as it is.
abbrev pub Exchanges : {I O : Type 0} → Streams I O → (request : List ℕ) → link.Link I O → Answer → link.Link I O
    → Type 0
Exchanges by request l (Ok r) l' =
    (l.fault ≡ None) × Asks by false request l.wire (Ok r) l'.wire × (l'.fault ≡ None)
Exchanges by request l (Err Memory) l' = ⊥
Exchanges by request l (Err Io) l' = Breaks by.took request l Io l'
Exchanges by request l (Err Wire) l' = ((l.fault ≢ None) × (l' ≡ l)) ⊎ Breaks by.took request l Wire l'

-- The same in two: the request goes out, and nothing is read yet. On a fault it is as of any request.
abbrev pub Sends : {I O : Type 0} → Streams I O → (request : List ℕ) → link.Link I O → Result (Unit {0}) PortFault
    → link.Link I O → Type 0
Sends by request l (Ok u) l' = (l.fault ≡ None) × by.took l.wire.writer request l'.wire.writer
    × (l'.wire.incoming ≡ l.wire.incoming) × (l'.fault ≡ None)
Sends by request l (Err f) l' = Exchanges by request l (Err f) l'

-- it is not gone, nothing is written, and from then on it is gone by a fault, which is told as this one
abbrev pub GoesSilent : {I O : Type 0} → link.Link I O → PortFault → link.Link I O → Type 0
GoesSilent l f l' = (l.fault ≡ None) × (l'.wire.writer ≡ l.wire.writer)
    × ((e : LinkFault) × (l'.fault ≡ Some e) × (f ≡ port_fault e))

-- And then its reply is read, with nothing after it, and nothing is written; or the connection is gone.
abbrev pub Receives : {I O : Type 0} → Streams I O → link.Link I O → Answer → link.Link I O → Type 0
Receives by l (Ok r) l' = (l.fault ≡ None) × (l'.wire.writer ≡ l.wire.writer)
    × IsAnswered by.gave false (source l.wire.incoming) (tree r) l'.wire.incoming.reader × (l'.fault ≡ None)
Receives by l (Err Memory) l' = ⊥
Receives by l (Err Io) l' = GoesSilent l Io l'
Receives by l (Err Wire) l' = ((l.fault ≢ None) × (l' ≡ l)) ⊎ GoesSilent l Wire l'

-- So goes a request for a text, which may be longer than an argument. A fault is as it is of any request.
abbrev pub ExchangesText : {I O : Type 0} → Streams I O → (request : List ℕ) → link.Link I O
    → Result TextReply PortFault → link.Link I O → Type 0
ExchangesText by request l (Ok x) l' = (l.fault ≡ None) × by.took l.wire.writer request l'.wire.writer
    × GivesText by.gave (source l.wire.incoming) x (record { reader = l'.wire.incoming.reader; unread = [] })
    × (l'.fault ≡ None)
ExchangesText by request l (Err f) l' = Exchanges by request l (Err f) l'

-- So goes a request for a list, which may have more texts than an array has otherwise. A fault is as it is of any.
abbrev pub ExchangesList : {I O : Type 0} → Streams I O → (request : List ℕ) → link.Link I O
    → Result ListReply PortFault → link.Link I O → Type 0
ExchangesList by request l (Ok x) l' = (l.fault ≡ None) × by.took l.wire.writer request l'.wire.writer
    × GivesList by.gave (source l.wire.incoming) x (record { reader = l'.wire.incoming.reader; unread = [] })
    × (l'.fault ≡ None)
ExchangesList by request l (Err f) l' = Exchanges by request l (Err f) l'

-- AUTH goes over a connection: whether the reply lets it in, or out of memory with nothing written, or a fault
abbrev pub LogsIn : {I O : Type 0} → Streams I O → (request : List ℕ) → link.Link I O → Result Bool PortFault
    → link.Link I O → Type 0
LogsIn by request l (Ok let_in) l' = (r : Reply) × Exchanges by request l (Ok r) l' × (let_in ≡ lets_in r)
LogsIn by request l (Err e) l' = ((e ≡ Memory) × (l' ≡ l)) ⊎ Exchanges by request l (Err e) l'
