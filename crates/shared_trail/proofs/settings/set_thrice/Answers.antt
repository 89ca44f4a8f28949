use Rattle.std.proofs.Common.{ap, ◌∙◌}
use Rattle.cluster_node.specs.Nodes.{Node}
use Rattle.cluster_node.specs.NodeView.{NodeView}
use Rattle.cluster_world.proofs.Within.{on_err}
use Rattle.shared_trail.proofs.Locally.{listing_same}
use Rattle.shared_trail.proofs.settings.set_thrice.Goals as goal

pub returns-in_err-second-clause-err : goal.returns-in_err-second-clause-err
returns-in_err-second-clause-err c =
    let x : NodeView = c.args.node.now in
    on_err c.from_residual-in_err-second.result
    (c.in_ok-reply.ensures.ok ∙ ap (λ (z : Node). record x { node = z }) (listing_same x.me x.nodes x.node c.args.command.now c.in_ok-reply.reply c.requires c.in_ok-reply.ensures.reply c.in_err-second.ensures.memory))
