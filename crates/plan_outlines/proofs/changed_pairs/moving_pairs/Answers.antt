use Rattle.std.proofs.Common.{rules}
use Rattle.plan_outlines.specs.Pairs.{moving_from, pair_in}
use Rattle.plan_outlines.proofs.EachPair.{source_more}
use Rattle.plan_outlines.proofs.changed_pairs.moving_pairs.Goals as goal

pub loop-source-preserved : goal.loop-source-preserved
loop-source-preserved c =
    source_more (λ s. moving_from (pair_in c.args.nodes c.args.slots.now c.args.keys.now s) c.args.nodes) c.loop-source.source c.of.result c.loop-source.pairs.items c.put_pairs_from.new.pairs.items
    (search rules) c.loop-source.invariant c.in_ok-put_pairs_from.ensures
