use Rattle.std.proofs.Common.{sym, subst}
use Rattle.store_commands.specs.NoEmptyCollections.{HasNoEmptyCollection}
use Rattle.cluster_node.proofs.Carried.{with_entries-whole}
use Rattle.cluster_node.proofs.node.Node.admit.Goals as goal

pub invariant_of-self-2 : goal.invariant_of-self-2
invariant_of-self-2 c = record {
  is_port = c.self.invariant.is_port;
  whole = subst HasNoEmptyCollection (sym c.in_ok-put_all.ensures.ok) (with_entries-whole c.self.inside.held c.in_ok-batch.batch.items c.in_ok-batch.ensures.whole c.self.invariant.whole);
}
