use Rattle.std.proofs.Common.{◌≡◌, ◌≤◌, ◌++◌, ◌∷◌, [], length, arith, subst, ap}
use Rattle.std.proofs.lemmas.List.{length-append, length-replicate}
use Rattle.cluster_admin.specs.Surveys.{closed_row, closed_survey}
use Rattle.cluster_admin.proofs.Surveyed.{all_copied, closed_at, closed_copied, none_copied, survey_copied}
use Rattle.cluster_admin.proofs.survey.Survey.closed.Goals as goal
use Rattle.cluster_admin.proofs.survey.Survey.closed.Goals.{After-loop-number}

all : (c : After-loop-number) → length c.loop-number.tables.items ≡ c.args.owners.now.nodes
all c = omega (arith, c.loop-number.invariant.0, c.loop-number-test.false, c.loop-number.auto.number-end, c.nodes-number-end.ensures.value)

pub loop-number-init : goal.loop-number-init
loop-number-init c = (ap length c.in_ok-tables.ensures.items, none_copied c.args.owners.now.nodes (λ n. closed_row c.args.owners.now.owners) c.in_ok-tables.tables.items c.in_ok-tables.ensures.items)

pub loop-number-preserved : goal.loop-number-preserved
loop-number-preserved c =
    let count : length c.push.new.self.items ≡ length (c.loop-number.tables.items ++ c.in_ok-new.field-0 ∷ []) = ap length c.in_ok-push.ensures.items in (
      omega (arith, count, length-append c.loop-number.tables.items (c.in_ok-new.field-0 ∷ []), c.loop-number.invariant.0),
      closed_copied c.args.owners.now c.in_ok-try_copy.field-0 c.loop-number.number c.of.result c.in_ok-new.field-0 c.loop-number.tables.items c.push.new.self.items
          c.loop-number.invariant.0 c.loop-number.invariant.1 c.in_ok-push.ensures.items c.of.ensures c.in_ok-try_copy.ensures c.in_ok-new.ensures c.nodes.ensures.width c.nodes.ensures.named,
    )

pub invariant_of-result : goal.invariant_of-result
invariant_of-result c =
    all_copied c.args.owners.now.nodes (λ n. closed_row c.args.owners.now.owners) c.loop-number.tables.items c.loop-number.invariant.1 (all c)
    (subst (λ l. 1 ≤ l) c.nodes.ensures.value c.nodes.ensures.some) (subst (λ l. l ≤ 255) c.nodes.ensures.value c.nodes.ensures.most)

pub returns : goal.returns
returns c =
    survey_copied c.args.owners.now.nodes (λ n. closed_row c.args.owners.now.owners) c.loop-number.tables.items
    (closed_survey c.args.owners.now.nodes c.args.owners.now.owners) c.loop-number.invariant.1 (all c)
    (length-replicate c.args.owners.now.nodes (closed_row c.args.owners.now.owners))
    (λ n h. closed_at c.args.owners.now.nodes c.args.owners.now.owners n h)
