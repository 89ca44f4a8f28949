use Rattle.shared_trail.proofs.Surveyed.{adds}
use Rattle.shared_trail.proofs.locked_node.LockedNode.copy_table.Goals as goal

pub returns : goal.returns
returns g c =
    adds _ _ _ c.self.inside.node c.args.self.now c.table.result.now c.args.tables.now.items c.add_copy.new.tables.items c.self.invariant.1 c.self.view_is c.table.ensures
    c.in_ok-add_copy.ensures.items c.in_ok-add_copy.ensures.whole
