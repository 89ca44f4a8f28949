-- Several requests over one connection, whose replies are read one after the other (Redis's page on pipelining).
use Rattle.std.specs.Prelude.{◌≡◌, Bool, true, false, None, Ok, Err}
use Rattle.resp2_wire.specs.View.{tree}
use Rattle.server_links.specs.Exchanges.{Answer}
use Rattle.server_links.specs.Links.{Receives}
use Rattle.server_links.specs.Replies.{ReadsReply}
use Rattle.server_links.specs.Sources.{source}
use Rattle.server_links.specs.Streams.{Streams}
use Rattle.server_links.specs.declared.link.Link as link

-- The next reply is read, and what has come after it is left to be read; nothing is written. A fault is as it is where
-- one reply is read.
abbrev pub ReceivesNext : {I O : Type 0} → Streams I O → link.Link I O → Answer → link.Link I O → Type 0
ReceivesNext by l (Ok r) l' = (l.fault ≡ None) × (l'.wire.writer ≡ l.wire.writer)
    × ReadsReply by.gave (source l.wire.incoming) (tree r) (source l'.wire.incoming) × (l'.fault ≡ None)
ReceivesNext by l (Err f) l' = Receives by l (Err f) l'

-- Of several replies the last is read, or another one.
abbrev pub ReceivesOf : {I O : Type 0} → Streams I O → (is_last : Bool)
    → link.Link I O → Answer → link.Link I O → Type 0
ReceivesOf by true l r l' = Receives by l r l'
ReceivesOf by false l r l' = ReceivesNext by l r l'
