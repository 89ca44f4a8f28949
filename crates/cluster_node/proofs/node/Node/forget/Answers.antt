use Rattle.std.proofs.Common.{sym, subst}
use Rattle.store_commands.specs.NoEmptyCollections.{HasNoEmptyCollection}
use Rattle.cluster_node.proofs.Carried.{without-whole}
use Rattle.cluster_node.proofs.node.Node.forget.Goals as goal

pub invariant_of-self : goal.invariant_of-self
invariant_of-self c = record {
  is_port = c.self.invariant.is_port;
  whole = subst HasNoEmptyCollection (sym c.remove_all.ensures) (without-whole c.self.inside.held c.args.keys.now c.self.invariant.whole);
}
