use Rattle.std.proofs.Common.{rules}
use Rattle.plan_outlines.proofs.EachNode.{node_more}
use Rattle.plan_outlines.proofs.changed_nodes.node_changes.Goals as goal

pub loop-number-preserved : goal.loop-number-preserved
loop-number-preserved c =
    node_more c.args.before.now c.args.after.now c.in_ok-held.held.items c.in_ok-then.then.items c.loop-number.changes.items c.push.new.self.items c.args.nodes c.loop-number.number c.of.result c.from.result c.from-in-loop-number.result c.index.result.now c.index-in-loop-number.result.now
    c.in_ok-held.ensures.width c.in_ok-then.ensures.width c.in_ok-held.ensures.counts c.in_ok-then.ensures.counts (search rules) (search rules) (search rules) (search rules) (search rules) (search rules) c.loop-number.invariant (search rules)
