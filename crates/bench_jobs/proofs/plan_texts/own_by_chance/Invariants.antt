use Rattle.std.proofs.Common.{◌≡◌}
use Rattle.bench_jobs.proofs.plan_texts.own_by_chance.Given as goal

abbrev pub invariant-loop-turn : goal.invariant-loop-turn
invariant-loop-turn l = l.owners.nodes ≡ l.fn.owners.nodes
