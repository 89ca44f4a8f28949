use Rattle.std.proofs.Common.{arith, rules}
use Rattle.plan_outlines.proofs.Tallies.{one_more_fits}
use Rattle.plan_outlines.proofs.counting.counts_of_nodes.Goals as goal

pub overflow_add-index_mut : goal.overflow_add-index_mut
overflow_add-index_mut c =
    let h = one_more_fits c.args.owners.now c.loop-owner.counts.items c.args.nodes c.loop-owner.owner-index c.owner-item.result c.from-in-loop-owner.result c.index_mut.result.now c.requires.width (search rules) (search rules) (search rules) (search rules) (search rules) c.loop-owner.invariant in
    omega (arith, h)
