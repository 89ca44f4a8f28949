use Rattle.cluster_survey.specs.Linking.{AreLinked}
use Rattle.cluster_survey.proofs.linking.links_to.Given as goal

-- there are connections to the servers before
abbrev pub invariant-loop-number : goal.invariant-loop-number
invariant-loop-number g l = AreLinked g.D.Reach.reaches g.D.Reach.refuses
    (record { gave = g.D.Input.ByteIn.gave; took = g.D.Output.ByteOut.took }) l.credentials l.book l.number l.links.items
