use Rattle.std.proofs.Common.{◌≡◌, length, map}
use Rattle.loopback_servers.specs.Clients.{firsts}
use Rattle.loopback_servers.proofs.asking.clients_of.Given as goal

-- one worker a seat, each with the next first ID, or none of them with one
abbrev pub invariant-loop-seat : goal.invariant-loop-seat
invariant-loop-seat g l =
    (map (λ w. w.seat) l.workers.items ≡ l.yielded)
    × (length l.workers.items ≡ length l.yielded)
    × (map (λ w. w.connections.first) l.workers.items ≡ firsts l.answers_clients (length l.yielded))
