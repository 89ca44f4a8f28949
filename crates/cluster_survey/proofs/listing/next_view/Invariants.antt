use Rattle.std.specs.Prelude.{length}
use Rattle.cluster_survey.proofs.Listed.{Leads}
use Rattle.cluster_survey.proofs.listing.next_view.Given as goal

-- the servers before were asked in vain
abbrev pub invariant-loop-rest : goal.invariant-loop-rest
invariant-loop-rest g l =
    Leads g.D.Reach.reaches g.D.Reach.refuses (record { gave = g.D.Input.ByteIn.gave; took = g.D.Output.ByteOut.took }) l.credentials l.addresses l.rest

abbrev pub decreases-loop-rest : goal.decreases-loop-rest
decreases-loop-rest g l = length l.rest
