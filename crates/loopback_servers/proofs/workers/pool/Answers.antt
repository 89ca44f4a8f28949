use Rattle.std.proofs.Common.{IfOk, List, ℕ, subst}
use Rattle.cluster_world.specs.declared.event.Event.{Event}
use Rattle.loopback_servers.specs.Working.{GrowEach}
use Rattle.loopback_servers.proofs.workers.pool.Goals as goal

pub returns-clause-seats : goal.returns-clause-seats
returns-clause-seats g c =
    subst (λ (xs : List (ℕ × List Event)). IfOk c.run_workers.result (λ v. GrowEach xs v.items)) c.in_ok-workers.ensures c.run_workers.ensures.seats
