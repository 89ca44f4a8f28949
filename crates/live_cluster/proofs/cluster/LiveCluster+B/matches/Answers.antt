use Rattle.std.proofs.Common.{◌≡◌, arith, rules, sym, ◌∙◌}
use Rattle.live_cluster.proofs.Surveyed.{rows_told, survey_many}
use Rattle.live_cluster.proofs.cluster.LiveCluster+B.matches.Goals as goal

pub returns-then-count-nodes-clause-same : goal.returns-then-count-nodes-clause-same
returns-then-count-nodes-clause-same g c = (
  λ h. search rules,
  λ u. absurd (c.if-count-nodes.true (c.nodes-count.ensures.value
      ∙ sym (survey_many g.B.ClusterBrand.setup.opening c.args.seat.now c.args.survey.now (sym u)) ∙ sym c.nodes.ensures.value)),
)

pub returns-clause-same : goal.returns-clause-same
returns-clause-same g c =
    let number : c.loop-number.number ≡ c.nodes-count.result = omega (arith, c.loop-number-test.false, c.loop-number.auto.number-end) in (
      λ h. rows_told g.B.ClusterBrand.setup.opening c.args.seat.now c.args.survey.now
          (sym c.nodes-count.ensures.value ∙ c.if-count-nodes.false ∙ c.nodes.ensures.value)
          (λ n lt. c.loop-number.invariant.1 n (omega (arith, lt, number, c.nodes-count.ensures.value))),
      λ u. search rules,
    )
