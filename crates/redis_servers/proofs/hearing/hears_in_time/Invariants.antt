use Rattle.std.proofs.Common.{◌≡◌, ℕ, vec_len}
use Rattle.redis_servers.specs.Asking.{AsksNode, nodes_question}
use Rattle.redis_servers.specs.Hearing.{Turns}
use Rattle.redis_servers.proofs.hearing.hears_in_time.Given as goal

-- so many turns without agreement
abbrev pub invariant-loop : goal.invariant-loop
invariant-loop g l = (k : ℕ)
    × Turns (AsksNode (record { gave = g.I.ByteIn.gave; took = g.O.ByteOut.took }) nodes_question) l.login l.name l.source l.target k
    l.initial.links.items l.links.items
    × (vec_len l.links ≡ vec_len l.initial.links)
