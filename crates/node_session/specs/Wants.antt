-- What the program makes of a request.
use Rattle.std.specs.Prelude.{◌≡◌, Option, Some, None}
use Rattle.resp2_wire.specs.Stream.{Words}
use Rattle.resp2_wire.specs.declared.reply.Reply.{Reply}
use Rattle.node_session.specs.Requests.{Asked, Here, Slots, words_ask, IsOwn, IsCommand}
use Rattle.node_session.specs.declared.want.Want.{Want}
use Rattle.node_session.specs.declared.want.Want.TheVariants as want

abbrev pub Asks : Words → Want → Type 0
Asks r (want.Here reply) = IsOwn r reply
Asks r want.Slots = words_ask r ≡ Slots
Asks r (want.Stored c) = IsCommand r c

-- a reply, or none for CLUSTER SLOTS
abbrev pub shown : Option Reply → Asked
shown None = Slots
shown (Some reply) = Here reply
