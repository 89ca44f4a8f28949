use Rattle.edge_tests.specs.Turns.{Fits}
use Rattle.edge_tests.proofs.resumed.go_on.Given as goal

-- a plan that runs is one for this world
abbrev pub invariant-loop-number : goal.invariant-loop-number
invariant-loop-number l = Fits l.taken l.world
