use Rattle.std.proofs.Common.{◌≡◌, ℕ, List, ◌++◌}
use Rattle.server_links.specs.Limits.{Holds}
use Rattle.server_links.specs.Looking.{IsLooked}
use Rattle.server_links.proofs.incoming.Incoming.list_begun.Given as goal

-- what the reader gave stands after what was not read yet
abbrev pub invariant-loop : goal.invariant-loop
invariant-loop g l = (n : ℕ) × (input : List ℕ) × g.I.ByteIn.gave l.initial.self.reader n input l.self.reader
    × (l.self.unread.items ≡ l.initial.self.unread.items ++ input)
    × Holds l.limit l.initial.self.unread.items l.self.unread.items
    × IsLooked l.self.unread.items l.looked.place l.looked.left
