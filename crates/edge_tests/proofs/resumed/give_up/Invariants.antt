use Rattle.edge_tests.specs.Turns.{Fits}
use Rattle.edge_tests.proofs.resumed.give_up.Given as goal

-- a plan that runs is one for this world
abbrev pub invariant-loop : goal.invariant-loop
invariant-loop l = Fits l.taken l.world
