use Rattle.cluster_node.proofs.Prepared.{memory-committed}
use Rattle.cluster_node.proofs.node.Node.client.Goals as goal

pub returns-clause-memory : goal.returns-clause-memory
returns-clause-memory c =
    memory-committed c.args.self.now c.args.asking c.args.command.now c.in_ok-change.change c.commit.result c.in_ok-change.ensures.work c.commit.ensures.memory
