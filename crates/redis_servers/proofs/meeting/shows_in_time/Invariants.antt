use Rattle.std.proofs.Common.{◌≡◌, ℕ, vec_len}
use Rattle.redis_servers.specs.Asking.{AsksNode, nodes_question}
use Rattle.redis_servers.specs.Looking.{LookTurns}
use Rattle.redis_servers.specs.Meeting.{Shows}
use Rattle.redis_servers.proofs.meeting.shows_in_time.Given as goal

-- so many looks that do not show it
abbrev pub invariant-loop : goal.invariant-loop
invariant-loop g l = (k : ℕ)
    × LookTurns (AsksNode (record { gave = g.I.ByteIn.gave; took = g.O.ByteOut.took })) l.setup.credentials
    nodes_question (Shows l.setup l.history l.duty) l.node k l.initial.links.items l.links.items
    × (vec_len l.links ≡ vec_len l.initial.links)
