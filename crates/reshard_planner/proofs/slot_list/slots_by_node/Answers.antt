use Rattle.std.proofs.Common.{rules, arith, ◌-◌, ◌<◌, ◌++◌, ◌∙◌, ap, subst, sym}
use Rattle.std.specs.List.{All}
use Rattle.plan_language.specs.Lines.{numbers_from}
use Rattle.reshard_planner.specs.Starts.{AreSlotsOf}
use Rattle.reshard_planner.proofs.Walking.{all_listed, none_listed, one_listed, owner_below}
use Rattle.reshard_planner.proofs.slot_list.slots_by_node.Goals as goal

pub loop-place-init : goal.loop-place-init
loop-place-init c = none_listed c.starts-starts.result.now c.nodes-nodes.result c.in_ok-lists.lists.items c.args.owners.now.owners
    c.starts-starts.ensures c.nodes-nodes.ensures.width
    (subst (λ n. All (λ o. o < n) c.args.owners.now.owners) (sym c.nodes-nodes.ensures.value) c.nodes-nodes.ensures.named) c.in_ok-lists.ensures

pub loop-place-preserved : goal.loop-place-preserved
loop-place-preserved c = one_listed c.starts-starts.result.now c.loop-place.place c.nodes-nodes.result c.loop-place.lists.items c.args.owners.now.owners
    c.loop-place.invariant c.range_at-range.result.end c.range_at-range.result.owner c.from.result c.index_mut.result.now _
    (c.range_at-range.ensures.ahead c.loop-place.invariant.from c.loop-place.invariant.rest c.loop-place.invariant.spans)
    (c.from.ensures ∙ c.get.ensures.value) c.index_mut.ensures.value
    (c.in_ok-push_all.ensures ∙ ap (λ x. c.index_mut.result.now ++ numbers_from x (c.range_at-range.result.end - x))
    (c.range_at-range.ensures.first c.loop-place.invariant.from c.loop-place.invariant.rest c.loop-place.invariant.spans))

pub returns : goal.returns
returns c = subst (λ n. AreSlotsOf n c.args.owners.now.owners c.loop-place.lists.items) c.nodes-nodes.ensures.value
    (all_listed c.starts-starts.result.now c.loop-place.place c.nodes-nodes.result c.loop-place.lists.items c.args.owners.now.owners
    c.loop-place.invariant (search rules))

pub index_mut-requires : goal.index_mut-requires
index_mut-requires c =
    let l = owner_below c.starts-starts.result.now c.loop-place.place c.nodes-nodes.result c.loop-place.lists.items c.args.owners.now.owners
    c.loop-place.invariant c.range_at-range.result.end c.range_at-range.result.owner
    (c.range_at-range.ensures.ahead c.loop-place.invariant.from c.loop-place.invariant.rest c.loop-place.invariant.spans) in
    omega (arith, l, c.from.ensures, c.get.ensures.value, c.loop-place.invariant.count, c.loop-place.lists.ok)
