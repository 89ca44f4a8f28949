use Rattle.shared_trail.proofs.Standing.{is_then}
use Rattle.shared_trail.proofs.reading.place_on.Goals as goal

pub returns-clause-is_then : goal.returns-clause-is_then
returns-clause-is_then g c =
    is_then _ c.args.trail.now.events c.locked.inside.holder c.locked.inside.node c.args.locked.now _
    c.confirm_node.ensures.run c.confirm_node.ensures.node c.locked.invariant.0 c.locked.invariant.1 c.locked.view_is
