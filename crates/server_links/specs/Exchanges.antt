-- One connection: what is written of a request, and what comes of that.
use Rattle.std.specs.Prelude.{◌≤◌, ℕ, Bool, List, [], Result, Ok, Err, length, take}
use Rattle.cluster_admin.specs.declared.port_fault.PortFault.{PortFault}
use Rattle.cluster_admin.specs.declared.port_fault.PortFault.TheVariants.{Io, Memory, Wire}
use Rattle.resp2_wire.specs.View.{tree}
use Rattle.resp2_wire.specs.declared.reply.Reply.{Reply}
use Rattle.server_links.specs.Limits.{IsWithin}
use Rattle.server_links.specs.LongLists.{GivesList, IsListWithin}
use Rattle.server_links.specs.LongTexts.{GivesText, IsTextWithin}
use Rattle.server_links.specs.Replies.{IsAnswered}
use Rattle.server_links.specs.Sources.{source}
use Rattle.server_links.specs.Streams.{Question, Streams}
use Rattle.server_links.specs.declared.link_fault.LinkFault.{LinkFault}
use Rattle.server_links.specs.declared.list_reply.ListReply.{ListReply}
use Rattle.server_links.specs.declared.text_reply.TextReply.{TextReply}
use Rattle.server_links.specs.declared.wire.Wire as wire

-- a reply, or why there is none
abbrev pub Answer : Type 0
Answer = Result Reply PortFault

-- a prefix of the request was written
abbrev pub IsBegun : {O : Type 0} → (took : O → List ℕ → O → Type 0) → (request : List ℕ) → O → O → Type 0
IsBegun took request writer writer' = (n : ℕ) × (n ≤ length request) × took writer (take n request) writer'

module _ {I O : Type 0} (by : Streams I O) where
  -- The whole request was written, and its reply read; or a prefix of it was, and there is no reply. Memory that runs
  -- out once the request was begun is no such answer, which says that nothing was done.
  abbrev pub Asks : (asking : Bool) → (request : List ℕ) → wire.Wire I O → Answer → wire.Wire I O → Type 0
  Asks asking request w (Ok r) w' = by.took w.writer request w'.writer
      × IsAnswered by.gave asking (source w.incoming) (tree r) w'.incoming.reader
  Asks asking request w (Err Memory) w' = ⊥
  Asks asking request w (Err Io) w' = IsBegun by.took request w.writer w'.writer
  Asks asking request w (Err Wire) w' = IsBegun by.took request w.writer w'.writer

  -- the same with a limit, within which the reply that was read is
  abbrev pub AsksWithin : (asking : Bool) → Question → wire.Wire I O → Result Reply LinkFault → wire.Wire I O → Type 0
  AsksWithin asking q w (Ok r) w' = Asks asking q.request w (Ok r) w' × IsWithin q.limit r
  AsksWithin asking q w (Err f) w' = IsBegun by.took q.request w.writer w'.writer

  -- the same for a request for a text
  abbrev pub AsksText : Question → wire.Wire I O → Result TextReply LinkFault → wire.Wire I O → Type 0
  AsksText q w (Ok x) w' = by.took w.writer q.request w'.writer
      × GivesText by.gave (source w.incoming) x (record { reader = w'.incoming.reader; unread = [] })
      × IsTextWithin q.limit x
  AsksText q w (Err f) w' = IsBegun by.took q.request w.writer w'.writer

  -- the same for a request for a list
  abbrev pub AsksList : Question → wire.Wire I O → Result ListReply LinkFault → wire.Wire I O → Type 0
  AsksList q w (Ok x) w' = by.took w.writer q.request w'.writer
      × GivesList by.gave (source w.incoming) x (record { reader = w'.incoming.reader; unread = [] })
      × IsListWithin q.limit x
  AsksList q w (Err f) w' = IsBegun by.took q.request w.writer w'.writer
