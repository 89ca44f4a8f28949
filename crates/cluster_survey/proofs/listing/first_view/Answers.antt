use Rattle.cluster_survey.proofs.Listed.{first_lists, later_lists, none_lists}
use Rattle.cluster_survey.proofs.listing.first_view.Goals as goal

pub returns-in-Ok : goal.returns-in-Ok
returns-in-Ok g c =
    first_lists g.D.Reach.reaches g.D.Reach.refuses (record { gave = g.D.Input.ByteIn.gave; took = g.D.Output.ByteOut.took }) c.args.credentials.now
    c.args.addresses.now _ c.in-Ok.lines c.requires c.in-Ok.ensures

pub returns-in-Some : goal.returns-in-Some
returns-in-Some g c =
    later_lists g.D.Reach.reaches g.D.Reach.refuses (record { gave = g.D.Input.ByteIn.gave; took = g.D.Output.ByteOut.took }) c.args.credentials.now
    c.args.addresses.now _ c.in-Err.fault c.in-Some.lines c.requires c.in-Err.ensures c.in-Some.ensures

pub returns-in-None : goal.returns-in-None
returns-in-None g c =
    none_lists g.D.Reach.reaches g.D.Reach.refuses (record { gave = g.D.Input.ByteIn.gave; took = g.D.Output.ByteOut.took }) c.args.credentials.now
    c.args.addresses.now _ c.in-Err.fault c.requires c.in-Err.ensures c.in-None.ensures
