use Rattle.redis_servers.proofs.Checks.{master_by}
use Rattle.redis_servers.specs.Asking.{AsksNode}
use Rattle.redis_servers.proofs.meeting.check_master.Goals as goal

pub returns-in-Ok-clause-shows : goal.returns-in-Ok-clause-shows
returns-in-Ok-clause-shows g c =
    master_by (AsksNode (record { gave = g.I.ByteIn.gave; took = g.O.ByteOut.took })) c.args.setup.now c.args.source c.args.text c.args.links.now.items
    c.role_at.new.links.items c.in-Ok.is_master c.continue_if.result c.requires.text c.in-Ok.ensures.asked c.continue_if.ensures
