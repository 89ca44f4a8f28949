use Rattle.cluster_world.specs.declared.event.Event.TheVariants.{Admin}
use Rattle.cluster_world.proofs.Recording.{recorded}
use Rattle.rehearsal.proofs.seat_free.administer.Goals as goal

pub returns-clause-record : goal.returns-clause-record
returns-clause-record c =
    recorded c.args.recorded.now c.admin.new.self (Admin c.args.node c.args.command c.in-Ok.reply) c.requires.record
    c.in-Ok.ensures.moves
