use Rattle.std.proofs.Common.{ap, ◌∙◌, arith}
use Rattle.cluster_admin.specs.Surveys.{owner_at}
use Rattle.server_phases.proofs.Likely.{likely_closed}
use Rattle.server_phases.proofs.phases.likely_unmarked.Goals as goal

pub returns-in-None : goal.returns-in-None
returns-in-None c p h =
    let v = c.args.survey.now in
    let s = c.args.slot in
    let first = c.owner-first.ensures.value ∙ ap (λ n. owner_at v n s) c.of.ensures in
    likely_closed v s p c.owner-target.result h c.requires.goes c.requires.comes
    (omega (arith, c.nodes-nodes.ensures.least, c.nodes-nodes.ensures.value))
    (c.owner-target.ensures.value ∙ ap (λ n. owner_at v n s) first) c.in-None.ensures
