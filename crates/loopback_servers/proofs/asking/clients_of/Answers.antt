use Rattle.std.proofs.Common.{◌≡◌, ◌∙◌, ◌+◌, refl, ap, length, Some, None, cond}
use Rattle.loopback_servers.proofs.Clients.{workers_then}
use Rattle.loopback_servers.proofs.asking.clients_of.Goals as goal

pub loop-seat-preserved : goal.loop-seat-preserved
loop-seat-preserved g c =
    let before : c.len.result ≡ length c.loop-seat.workers.items = c.len.ensures ∙ c.loop-seat.workers.ok.0 in
    let i = c.loop-seat.invariant in
    workers_then (λ w. w.seat) (λ w. w.connections.first) c.args.answers_clients c.loop-seat.workers.items
    c.push.new.self.items c.loop-seat.yielded _ c.in-Some.seat c.in_ok-push.ensures.items refl
    (c.first_id-first.ensures ∙ ap (λ n. cond c.args.answers_clients (Some (n + 1)) None) before) i.0 i.1 i.2
