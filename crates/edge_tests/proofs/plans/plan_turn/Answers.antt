use Rattle.edge_tests.proofs.plans.plan_turn.Goals as goal
use Rattle.edge_tests.proofs.Turning.{turn_fits}

pub returns-in-Running-clause-fits : goal.returns-in-Running-clause-fits
returns-in-Running-clause-fits c =
    turn_fits c.args.world.now c.advance.new.port c.in-Running.plan c.advance.result
    (rw c.in-Running.is at c.requires) c.advance.ensures.nodes c.advance.ensures.sends
