-- Where out of memory may stand in the place of an answer for which nothing was sent.
use Rattle.resp2_wire.specs.Stream.{Words}
use Rattle.store_commands.specs.Memory.{IsMade}
use Rattle.node_session.specs.Requests.{Asked, Here, Slots, Stored, words_ask}

-- The reply is the session's own and a text, or the request is for the store: the words of a command are kept, and a
-- request that is no command is answered by a text. The slot of a key is a number, and CLUSTER SLOTS is sent as it is.
abbrev pub TakesMemory : Asked → Type 0
TakesMemory (Here reply) = IsMade reply
TakesMemory Slots = ⊥
TakesMemory Stored = Unit {0}

abbrev pub MayRunOut : Words → Type 0
MayRunOut r = TakesMemory (words_ask r)
