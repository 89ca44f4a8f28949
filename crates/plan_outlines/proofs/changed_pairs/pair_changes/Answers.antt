use Rattle.plan_outlines.proofs.EachPair.{sorted_pairs}
use Rattle.plan_outlines.proofs.changed_pairs.pair_changes.Goals as goal

pub returns-clause-pairs : goal.returns-clause-pairs
returns-clause-pairs c =
    sorted_pairs c.args.nodes c.args.before.now c.args.after.now c.args.keys.now c.in_ok-slots.slots.items c.in_ok-keys.keys.items c.as_slice.result.now c.as_slice-2.result.now c.in_ok-pairs.pairs.items c.sort_pairs.new.pairs.items
    c.as_slice.ensures.value c.as_slice-2.ensures.value c.in_ok-slots.ensures.counts c.in_ok-keys.ensures.counts c.in_ok-pairs.ensures c.sort_pairs.ensures.pairs
