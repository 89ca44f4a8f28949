use Rattle.std.proofs.Common.{◌≡◌, ◌≤◌, length, arith, refl, ◌∙◌, subst}
use Rattle.cluster_admin.specs.declared.call.AdminCall.{AdminCall}
use Rattle.std.proofs.Common.{List}
use Rattle.shared_trail.specs.Surveying.{AddsTable, row_by_calls}
use Rattle.live_cluster.proofs.Surveyed.{SoFar, all_tables, begun, goes_on, survey_is, survey_many}
use Rattle.live_cluster.proofs.cluster.LiveCluster+B.survey.Goals as goal

pub loop-number-init : goal.loop-number-init
loop-number-init g c = (refl, begun g.B.ClusterBrand.setup.opening c.args.seat.now c.in_ok-tables.tables.items c.in_ok-tables.ensures.items)

pub returns-in_err-survey_node-clause-seat : goal.returns-in_err-survey_node-clause-seat
returns-in_err-survey_node-clause-seat g c = c.in_err-survey_node.ensures.seat ∙ c.loop-number.invariant.0

pub loop-number-preserved : goal.loop-number-preserved
loop-number-preserved g c =
    let opening = g.B.ClusterBrand.setup.opening in (
      c.in_ok-survey_node.ensures.seat ∙ c.loop-number.invariant.0,
      goes_on opening c.args.seat.now c.loop-number.number c.of.result c.loop-number.tables.items c.survey_node.new.tables.items c.of.ensures c.loop-number.invariant.1
          (subst (λ (calls : List AdminCall). AddsTable (length opening.nodes) c.of.result (row_by_calls opening calls c.of.result) c.loop-number.tables.items c.survey_node.new.tables.items)
          c.loop-number.invariant.0 c.in_ok-survey_node.ensures.ok),
    )

pub of-requires-2 : goal.of-requires-2
of-requires-2 g c =
    let number : c.loop-number.number ≡ c.nodes-count.result = omega (arith, c.loop-number-test.false, c.loop-number.auto.number-end) in
    all_tables g.B.ClusterBrand.setup.opening c.args.seat.now c.loop-number.number c.loop-number.tables.items c.loop-number.invariant.1
    (number ∙ c.nodes-count.ensures.value) (omega (arith, number, c.nodes-count.ensures.least)) (omega (arith, number, c.nodes-count.ensures.most))

pub returns-clause-told : goal.returns-clause-told
returns-clause-told g c =
    let number : c.loop-number.number ≡ c.nodes-count.result = omega (arith, c.loop-number-test.false, c.loop-number.auto.number-end) in
    c.of-2.ensures ∙ survey_is g.B.ClusterBrand.setup.opening c.args.seat.now c.loop-number.number c.loop-number.tables.items c.loop-number.invariant.1 (number ∙ c.nodes-count.ensures.value)

pub returns-clause-count : goal.returns-clause-count
returns-clause-count g c =
    let number : c.loop-number.number ≡ c.nodes-count.result = omega (arith, c.loop-number-test.false, c.loop-number.auto.number-end) in
    survey_many g.B.ClusterBrand.setup.opening c.args.seat.now c.of-2.result
    (c.of-2.ensures ∙ survey_is g.B.ClusterBrand.setup.opening c.args.seat.now c.loop-number.number c.loop-number.tables.items c.loop-number.invariant.1 (number ∙ c.nodes-count.ensures.value))

pub returns-clause-seat : goal.returns-clause-seat
returns-clause-seat g c = c.loop-number.invariant.0
