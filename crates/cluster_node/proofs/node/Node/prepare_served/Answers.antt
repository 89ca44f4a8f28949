use Rattle.std.proofs.Common.{subst}
use Rattle.store_commands.specs.Apply.{apply}
use Rattle.store_commands.specs.NoEmptyCollections.{HasNoEmptyCollection}
use Rattle.store_commands.proofs.NoEmptyCollections.{keeps_no_empty_collection}
use Rattle.cluster_node.specs.NodeView.{NodeView}
use Rattle.cluster_node.proofs.node.Node.prepare_served.Goals as goal

pub returns-clause-whole : goal.returns-clause-whole
returns-clause-whole c = subst (λ (x : NodeView). HasNoEmptyCollection (apply x.node.held c.args.command.now)) c.self.view_is (keeps_no_empty_collection c.self.inside.held c.args.command.now c.self.invariant.whole)

pub returns-in_err-prepare-clause-whole : goal.returns-in_err-prepare-clause-whole
returns-in_err-prepare-clause-whole c = subst (λ (x : NodeView). HasNoEmptyCollection (apply x.node.held c.args.command.now)) c.self.view_is (keeps_no_empty_collection c.self.inside.held c.args.command.now c.self.invariant.whole)
