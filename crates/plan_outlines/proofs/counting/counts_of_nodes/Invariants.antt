use Rattle.std.proofs.Common.{drop}
use Rattle.plan_outlines.specs.Nodes.{held}
use Rattle.plan_outlines.proofs.Tallies.{Tallied}
use Rattle.plan_outlines.proofs.counting.counts_of_nodes.Given as goal

abbrev pub invariant-loop-owner : goal.invariant-loop-owner
invariant-loop-owner l = Tallied l.counts.items l.nodes (held (drop l.owner-index l.owners)) (held l.owners)
