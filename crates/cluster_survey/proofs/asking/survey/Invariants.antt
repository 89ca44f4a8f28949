use Rattle.server_links.specs.Links.{Exchanges}
use Rattle.server_commands.specs.Spelling.{nodes_request}
use Rattle.cluster_survey.proofs.Asked.{Asked}
use Rattle.cluster_survey.proofs.asking.survey.Given as goal

-- the servers before gave their views
abbrev pub invariant-loop-number : goal.invariant-loop-number
invariant-loop-number g l =
    Asked (Exchanges (record { gave = g.I.ByteIn.gave; took = g.O.ByteOut.took }) nodes_request) l.fn.links.items l.number l.views.items l.links.items
