use Rattle.std.proofs.Common.{◌+◌, ◌-◌, ◌∙◌, ap, arith, get_or}
use Rattle.reshard_planner.proofs.Walking.{none_counted, one_counted, range_fits}
use Rattle.reshard_planner.proofs.held.held_by_node.Goals as goal

pub loop-place-init : goal.loop-place-init
loop-place-init c = none_counted c.starts-starts.result.now c.nothing-held.result c.args.owners.now.owners c.starts-starts.ensures c.requires
    c.nothing-held.ensures.width (λ node l. c.nothing-held.ensures.none node)

pub overflow_add-held : goal.overflow_add-held
overflow_add-held c =
    let f = c.range_at-range.ensures.first c.loop-place.invariant.from c.loop-place.invariant.rest c.loop-place.invariant.spans in
    let r = range_fits c.starts-starts.result.now c.loop-place.place c.loop-place.held c.args.owners.now.owners
    c.loop-place.invariant c.range_at-range.result.end c.range_at-range.result.owner c.from-in-loop-place.result
    (c.range_at-range.ensures.ahead c.loop-place.invariant.from c.loop-place.invariant.rest c.loop-place.invariant.spans)
    (omega (arith, c.get.ensures.within, c.get.ensures.value)) (c.from-in-loop-place.ensures ∙ c.get.ensures.value) in
    omega (arith, c.from.ensures)

pub loop-place-preserved : goal.loop-place-preserved
loop-place-preserved c = one_counted c.starts-starts.result.now c.loop-place.place c.loop-place.held c.args.owners.now.owners
    c.loop-place.invariant c.range_at-range.result.end c.range_at-range.result.owner c.from-in-loop-place.result _
    (c.range_at-range.ensures.ahead c.loop-place.invariant.from c.loop-place.invariant.rest c.loop-place.invariant.spans)
    (omega (arith, c.get.ensures.within, c.get.ensures.value)) (c.from-in-loop-place.ensures ∙ c.get.ensures.value)
    (ap (λ x. get_or c.loop-place.held c.from-in-loop-place.result 0 + x) (c.from.ensures ∙ ap (λ x. c.range_at-range.result.end - x)
    (c.range_at-range.ensures.first c.loop-place.invariant.from c.loop-place.invariant.rest c.loop-place.invariant.spans)))
