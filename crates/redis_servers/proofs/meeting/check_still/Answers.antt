use Rattle.std.proofs.Common.{Ok, subst}
use Rattle.redis_servers.proofs.Checks.{still_by}
use Rattle.redis_servers.specs.Asking.{AsksNode}
use Rattle.redis_servers.specs.Looking.{AsksRole}
use Rattle.redis_servers.proofs.meeting.check_still.Goals as goal

pub returns-in-Ok-false-clause-shows : goal.returns-in-Ok-false-clause-shows
returns-in-Ok-false-clause-shows g c =
    still_by (AsksNode (record { gave = g.I.ByteIn.gave; took = g.O.ByteOut.took })) c.args.setup.now c.args.history.now c.args.source c.args.slot c.args.text c.args.links.now.items
    c.role_at.new.links.items c.is_emptied.result c.continue_if.result c.requires.text
    (subst (λ b. AsksRole (AsksNode (record { gave = g.I.ByteIn.gave; took = g.O.ByteOut.took })) c.args.setup.now.credentials c.args.links.now.items c.args.source
    (Ok b) c.role_at.new.links.items) c.in-Ok-false.field-0-test c.in-Ok-false.ensures.asked)
    c.is_emptied.ensures c.continue_if.ensures
