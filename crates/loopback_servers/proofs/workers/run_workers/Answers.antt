use Rattle.std.proofs.lemmas.Result.{IfOk-weaker}
use Rattle.loopback_servers.proofs.Growing.{jobs_grow}
use Rattle.loopback_servers.proofs.workers.run_workers.Goals as goal

pub returns-clause-seats : goal.returns-clause-seats
returns-clause-seats g c =
    IfOk-weaker c.map_vec.result _ _ (λ v gives. jobs_grow (λ w. w.seat) _ _ c.args.workers.items v.items (λ j r h. h.met) gives) c.map_vec.ensures.each
