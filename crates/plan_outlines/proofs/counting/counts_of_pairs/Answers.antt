use Rattle.std.proofs.Common.{drop, arith, rules}
use Rattle.plan_outlines.specs.Pairs.{pair_slots}
use Rattle.plan_outlines.proofs.PairTallies.{at_pair, no_slots, pairs_all, slot_fits, slots_more}
use Rattle.plan_outlines.proofs.counting.counts_of_pairs.Goals as goal

pub overflow_add-index_mut : goal.overflow_add-index_mut
overflow_add-index_mut c =
    let h = slot_fits c.args.nodes c.args.before.now c.args.after.now c.loop-slot.counts.items c.pair_place-place.result c.index_mut.result.now (at_pair c.args.nodes (pair_slots (drop c.loop-slot.slot c.args.before.now) (drop c.loop-slot.slot c.args.after.now))) c.requires.before c.pair_place-place.ensures.within c.index_mut.ensures.value c.loop-slot.invariant in
    omega (arith, h)

pub loop-slot-preserved : goal.loop-slot-preserved
loop-slot-preserved c =
    slots_more c.args.nodes c.args.before.now c.args.after.now c.loop-slot.counts.items c.loop-slot.slot c.index-before-slot.result c.index-after-slot.result c.pair_place-place.result c.index_mut.result.now (at_pair c.args.nodes (pair_slots c.args.before.now c.args.after.now))
    (search rules) (search rules) c.index-before-slot.is c.index-after-slot.is (search rules) c.pair_place-place.ensures.value c.pair_place-place.ensures.within c.index_mut.ensures.value c.loop-slot.invariant

pub returns-clause-counts : goal.returns-clause-counts
returns-clause-counts c =
    pairs_all c.args.nodes c.loop-slot.counts.items (pair_slots c.args.before.now c.args.after.now) (pair_slots (drop c.loop-slot.slot c.args.before.now) (drop c.loop-slot.slot c.args.after.now))
    (no_slots c.args.before.now c.args.after.now c.loop-slot.slot (search rules)) c.loop-slot.invariant
