use Rattle.cluster_inspection.specs.Stranded.{TellsKeys}
use Rattle.cluster_inspection.proofs.StrandedLines.{stranded_said}
use Rattle.cluster_inspection.proofs.stranded.lines_of.Goals as goal

pub returns-in-Ok-clause-says : goal.returns-in-Ok-clause-says
returns-in-Ok-clause-says g c =
    stranded_said (TellsKeys (record { gave = g.I.ByteIn.gave; took = g.O.ByteOut.took })) c.with_lines.result
    c.args.servers.book c.requires.views
    c.args.servers.surveyed.survey c.in-Ok.lines.items c.requires.count c.requires.surveyed
    c.in-Ok.ensures.lines
    c.with_lines.ensures.text c.with_lines.ensures.none
