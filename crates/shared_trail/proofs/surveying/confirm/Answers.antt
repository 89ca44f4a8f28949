use Rattle.shared_trail.proofs.Surveyed.{row_confirmed}
use Rattle.shared_trail.proofs.surveying.confirm.Goals as goal

pub returns-clause-row : goal.returns-clause-row
returns-clause-row g c =
    row_confirmed g.B.ClusterBrand.setup.opening c.args.trail.now c.confirm_node.new.self c.locked.inside.holder c.seat.inside.holder c.locked.inside.node c.args.locked.now
    c.seat.inside.calls.items c.args.seat.now g.row.N c.confirm_node.ensures.run c.confirm_node.ensures.node c.locked.invariant.0 c.locked.view_is c.confirm_node.ensures.same
    c.confirm_caller.ensures.calls c.seat.invariant c.seat.view_is
