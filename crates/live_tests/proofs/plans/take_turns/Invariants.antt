use Rattle.std.proofs.Common.{length}
use Rattle.plan_runner.specs.Advancing.{plan_of, seat_of}
use Rattle.plan_runner.specs.Leaving.{HasSent}
use Rattle.live_tests.specs.Turns.{Fits}
use Rattle.live_tests.proofs.plans.take_turns.Given as goal

-- a plan that runs is one for this cluster, and what the seat has more was sent by the plan
abbrev pub invariant-loop : goal.invariant-loop
invariant-loop g l = record {
  fits : Fits l.taken (length g.B.ClusterBrand.setup.opening.nodes);
  sent : HasSent l.fn.plan.progress l.fn.plan.seat (seat_of l.taken) (plan_of l.taken);
}
