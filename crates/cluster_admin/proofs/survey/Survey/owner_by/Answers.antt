use Rattle.std.proofs.Common.{ap, ◌∙◌, sym, cond, eqb}
use Rattle.cluster_admin.proofs.Phasing.{owner_told}
use Rattle.cluster_admin.proofs.survey.Survey.owner_by.Goals as goal

pub returns-then-eq-2 : goal.returns-then-eq-2
returns-then-eq-2 c =
    owner_told c.args.self.now c.args.slot c.args.node c.in-SourceTold.source c.in-SourceTold.target c.args.phase.now c.in-SourceTold.source
    c.requires c.in-SourceTold.is
    (ap (λ b. cond b c.in-SourceTold.source c.in-SourceTold.target)
    (sym c.if-eq-2.true ∙ c.eq-in-SourceTold.ensures ∙ ap (λ o. eqb o c.in-SourceTold.source) c.owner.ensures.value))

pub returns-else-eq-2 : goal.returns-else-eq-2
returns-else-eq-2 c =
    owner_told c.args.self.now c.args.slot c.args.node c.in-SourceTold.source c.in-SourceTold.target c.args.phase.now c.in-SourceTold.target
    c.requires c.in-SourceTold.is
    (ap (λ b. cond b c.in-SourceTold.source c.in-SourceTold.target)
    (sym c.if-eq-2.false ∙ c.eq-in-SourceTold.ensures ∙ ap (λ o. eqb o c.in-SourceTold.source) c.owner.ensures.value))
