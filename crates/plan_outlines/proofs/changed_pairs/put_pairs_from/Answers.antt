use Rattle.std.proofs.Common.{rules}
use Rattle.plan_outlines.proofs.EachPair.{target_more}
use Rattle.plan_outlines.proofs.changed_pairs.put_pairs_from.Goals as goal

pub loop-number-preserved : goal.loop-number-preserved
loop-number-preserved c =
    target_more c.args.nodes c.args.slots.now c.args.keys.now c.args.source c.of-target.result c.loop-number.number c.pair_place-place.result c.args.pairs.now.items c.loop-number.pairs.items c.put_moving.new.pairs.items
    (search rules) c.pair_place-place.ensures.value c.loop-number.invariant c.in_ok-put_moving.ensures
