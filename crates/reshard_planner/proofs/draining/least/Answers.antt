use Rattle.std.proofs.Common.{◌∙◌, arith, slice_index}
use Rattle.reshard_planner.proofs.DrainQuotas.{least_end, least_step, lesser_else, lesser_then}
use Rattle.reshard_planner.proofs.draining.least.Goals as goal
use Rattle.reshard_planner.proofs.draining.least.Goals.{then-quotas-from, else-quotas-from}

pub loop-other-preserved : goal.loop-other-preserved
loop-other-preserved c =
    let row = c.args.quotas.now in
    let best = c.loop-other.least in
    let x = c.other-item.result in
    let here = c.from.ensures ∙ c.get.ensures.value in
    let there = c.from-in-loop-other.ensures ∙ c.get-in-loop-other.ensures.value in
    elim c.if-quotas-from.branch [
      | then-quotas-from w ↦ least_step (λ node. slice_index row node) c.args.others.now c.loop-other.other-index x
          best c.if-quotas-from.least _ c.loop-other-test.true c.other-item.is
          (w.least-is ∙ lesser_then row best x c.from.result c.from-in-loop-other.result here there
          (omega (arith, w.if-quotas-from)))
          c.loop-other.invariant
      | else-quotas-from w ↦ least_step (λ node. slice_index row node) c.args.others.now c.loop-other.other-index x
          best c.if-quotas-from.least _ c.loop-other-test.true c.other-item.is
          (w.least-is ∙ lesser_else row best x c.from.result c.from-in-loop-other.result here there
          (omega (arith, w.if-quotas-from)))
          c.loop-other.invariant
    ]

pub returns : goal.returns
returns c = least_end (λ node. slice_index c.args.quotas.now node) c.args.others.now c.loop-other.other-index
    c.loop-other.least _ (omega (arith, c.loop-other-test.false)) c.loop-other.invariant
