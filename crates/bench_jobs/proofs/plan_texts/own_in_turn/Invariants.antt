use Rattle.std.proofs.Common.{◌≡◌}
use Rattle.bench_jobs.proofs.plan_texts.own_in_turn.Given as goal

abbrev pub invariant-loop-slot : goal.invariant-loop-slot
invariant-loop-slot l = l.owners.nodes ≡ l.fn.owners.nodes
