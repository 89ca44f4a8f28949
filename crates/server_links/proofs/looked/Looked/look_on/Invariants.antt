use Rattle.server_links.specs.Looking.{IsLooked}
use Rattle.server_links.proofs.looked.Looked.look_on.Given as goal

-- what was looked through
abbrev pub invariant-loop : goal.invariant-loop
invariant-loop l = IsLooked l.bytes l.self.place l.self.left
