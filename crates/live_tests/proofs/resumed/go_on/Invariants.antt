use Rattle.std.proofs.Common.{length}
use Rattle.live_tests.specs.Turns.{Fits}
use Rattle.live_tests.proofs.resumed.go_on.Given as goal

-- a plan that runs is one for this cluster
abbrev pub invariant-loop-number : goal.invariant-loop-number
invariant-loop-number g l = Fits l.taken (length g.B.ClusterBrand.setup.opening.nodes)
