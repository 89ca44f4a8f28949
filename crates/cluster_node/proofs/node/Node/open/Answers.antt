use Rattle.std.proofs.Common.{sym, subst}
use Rattle.store_commands.specs.NoEmptyCollections.{HasNoEmptyCollection}
use Rattle.cluster_node.proofs.Carried.{empty-whole}
use Rattle.cluster_node.proofs.node.Node.open.Goals as goal

pub invariant_of-result : goal.invariant_of-result
invariant_of-result c = record {
  is_port = c.requires.port;
  whole = subst HasNoEmptyCollection (sym c.in_ok-new.ensures) empty-whole;
}
