use Rattle.std.proofs.Common.{length, ap, ◌∙◌}
use Rattle.cluster_world.specs.Worlds.{World}
use Rattle.cluster_world.proofs.Within.{on_err}
use Rattle.cluster_world.proofs.Keeping.{listing-keeps, after-length}
use Rattle.cluster_world.proofs.world.World.command_twice.Goals as goal

pub returns-in_err-copy-clause-count : goal.returns-in_err-copy-clause-count
returns-in_err-copy-clause-count c = ap (λ (w : World). length w.nodes) c.in_ok-reply.ensures.ok ∙ after-length c.args.self.now c.args.node c.args.command.now

pub returns-in_err-copy-clause-err : goal.returns-in_err-copy-clause-err
returns-in_err-copy-clause-err c =
    on_err c.from_residual-in_err-copy.result
    (c.in_ok-reply.ensures.ok ∙ listing-keeps c.args.self.now c.args.node c.args.command.now c.in_ok-reply.reply c.in_ok-reply.ensures.reply c.in_err-copy.ensures.memory)

pub returns-clause-count : goal.returns-clause-count
returns-clause-count c = ap (λ (w : World). length w.nodes) c.in_ok-reply.ensures.ok ∙ after-length c.args.self.now c.args.node c.args.command.now
