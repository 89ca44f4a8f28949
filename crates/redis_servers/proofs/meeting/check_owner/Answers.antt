use Rattle.std.proofs.Common.{◌∙◌, ap}
use Rattle.redis_servers.proofs.Checks.{owned_by}
use Rattle.redis_servers.specs.Asking.{AsksNode}
use Rattle.redis_servers.specs.Looking.{owns_slot}
use Rattle.redis_servers.proofs.meeting.check_owner.Goals as goal

pub returns-in-Ok-clause-shows : goal.returns-in-Ok-clause-shows
returns-in-Ok-clause-shows g c =
    owned_by (AsksNode (record { gave = g.I.ByteIn.gave; took = g.O.ByteOut.took })) c.args.setup.now c.args.target c.args.slot c.args.text c.args.links.now.items
    c.look_at.new.links.items c.in-Ok.nodes c.owns_slot.result c.continue_if.result c.requires.text c.in-Ok.ensures.looked
    (c.owns_slot.ensures ∙ ap (owns_slot c.args.slot) c.get.ensures) c.continue_if.ensures
