use Rattle.server_infos.specs.Asking.{AsksFigures}
use Rattle.server_infos.proofs.Told.{told_by}
use Rattle.server_infos.proofs.asking.server_of.Goals as goal

pub returns-clause-told : goal.returns-clause-told
returns-clause-told g c =
    told_by (AsksFigures (record { gave = g.I.ByteIn.gave; took = g.O.ByteOut.took })) c.args.node c.args.server.now
    c.in_ok-host.host c.in_ok-name.name c.in_ok-figures.figures c.args.links.now.items c.figures_at.new.links.items
    c.in_ok-host.ensures c.in_ok-name.ensures c.in_ok-figures.ensures.told
