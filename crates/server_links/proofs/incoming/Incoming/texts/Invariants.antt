use Rattle.std.proofs.Common.{◌≡◌, ◌+◌, ℕ, List, ◌++◌, length}
use Rattle.resp2_wire.specs.Encoding.{spellings}
use Rattle.server_links.specs.Limits.{Holds}
use Rattle.server_links.specs.LongLists.{bulks, list_width}
use Rattle.server_links.proofs.incoming.Incoming.texts.Given as goal

-- the texts so far have come, and what is left of the limit is what they leave
abbrev pub invariant-loop : goal.invariant-loop
invariant-loop g l = (n : ℕ) × (input : List ℕ) × g.I.ByteIn.gave l.initial.self.reader n input l.self.reader
    × (l.initial.self.unread.items ++ input ≡ spellings (bulks l.texts.items) ++ l.self.unread.items)
    × (length l.texts.items ≡ l.counter) × (list_width l.texts.items + l.left ≡ l.limit)
    × Holds l.limit l.initial.self.unread.items l.self.unread.items
