use Rattle.std.proofs.Common.{drop, arith, rules}
use Rattle.plan_outlines.specs.Pairs.{keys_from, pair_keys}
use Rattle.plan_outlines.proofs.PairTallies.{at_pair, keys_fit, keys_more, no_keys, pairs_all}
use Rattle.plan_outlines.proofs.counting.keys_of_pairs.Goals as goal

pub overflow_add-index_mut : goal.overflow_add-index_mut
overflow_add-index_mut c =
    let h = keys_fit c.args.nodes c.args.keys.now c.args.before.now c.args.after.now c.loop-slot.counts.items c.pair_place-place.result c.index_mut.result.now c.from-in-loop-slot.result (at_pair c.args.nodes (keys_from c.loop-slot.slot c.args.keys.now (drop c.loop-slot.slot c.args.before.now) (drop c.loop-slot.slot c.args.after.now))) c.requires.before (λ i. let h = c.type_inv.keys i in omega (arith, h)) (search rules) c.pair_place-place.ensures.within c.index_mut.ensures.value c.loop-slot.invariant in
    omega (arith, h)

pub loop-slot-preserved : goal.loop-slot-preserved
loop-slot-preserved c =
    keys_more c.args.nodes c.args.keys.now c.args.before.now c.args.after.now c.loop-slot.counts.items c.loop-slot.slot c.index-before-slot.result c.index-after-slot.result c.pair_place-place.result c.index_mut.result.now c.from-in-loop-slot.result (at_pair c.args.nodes (pair_keys c.args.keys.now c.args.before.now c.args.after.now))
    (search rules) (search rules) c.index-before-slot.is c.index-after-slot.is (search rules) c.pair_place-place.ensures.value c.pair_place-place.ensures.within c.index_mut.ensures.value (search rules) c.loop-slot.invariant

pub returns-clause-counts : goal.returns-clause-counts
returns-clause-counts c =
    pairs_all c.args.nodes c.loop-slot.counts.items (pair_keys c.args.keys.now c.args.before.now c.args.after.now) (keys_from c.loop-slot.slot c.args.keys.now (drop c.loop-slot.slot c.args.before.now) (drop c.loop-slot.slot c.args.after.now))
    (no_keys c.args.keys.now c.args.before.now c.args.after.now c.loop-slot.slot (search rules)) c.loop-slot.invariant
