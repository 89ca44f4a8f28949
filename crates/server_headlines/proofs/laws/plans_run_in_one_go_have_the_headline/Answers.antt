use Rattle.server_headlines.proofs.InAnyOrder.{runs_have_the_headline}
use Rattle.server_headlines.proofs.laws.plans_run_in_one_go_have_the_headline.Goals as goal

pub returns : goal.returns
returns g c =
    runs_have_the_headline (record { gave = g.I.ByteIn.gave; took = g.O.ByteOut.took }) g.row.P.Denot
