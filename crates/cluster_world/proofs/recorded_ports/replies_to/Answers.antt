use Rattle.std.proofs.Common.{length, ap, ◌∙◌}
use Rattle.cluster_world.specs.Worlds.{World}
use Rattle.cluster_world.proofs.Keeping.{listing-keeps, after-length}
use Rattle.cluster_world.proofs.recorded_ports.replies_to.Goals as goal

pub returns-in-Ok-clause-count : goal.returns-in-Ok-clause-count
returns-in-Ok-clause-count c =
    ap (λ (w : World). length w.nodes) c.in_ok-answer.ensures.ok
    ∙ after-length c.args.world.now c.args.node c.args.command.now

pub returns-in-Err-clause-count : goal.returns-in-Err-clause-count
returns-in-Err-clause-count c =
    ap (λ (w : World). length w.nodes) c.in_ok-answer.ensures.ok
    ∙ after-length c.args.world.now c.args.node c.args.command.now

pub returns-in-Err-clause-err : goal.returns-in-Err-clause-err
returns-in-Err-clause-err c =
    c.in_ok-answer.ensures.ok
    ∙ listing-keeps
    c.args.world.now
    c.args.node
    c.args.command.now
    c.in_ok-answer.answer
    c.in_ok-answer.ensures.reply
    c.in-Err.ensures.memory
