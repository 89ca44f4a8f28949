use Rattle.std.proofs.Common.{inl}
use Rattle.redis_servers.specs.Asking.{AsksNode, nodes_question}
use Rattle.redis_servers.proofs.Turning.{looked_by}
use Rattle.redis_servers.specs.Meeting.{Shows}
use Rattle.redis_servers.specs.Unmet.{unmet_text}
use Rattle.redis_servers.proofs.meeting.wait_until_shown.Goals as goal

pub returns-in-Ok-clause-waits : goal.returns-in-Ok-clause-waits
returns-in-Ok-clause-waits g c =
    looked_by (AsksNode (record { gave = g.I.ByteIn.gave; took = g.O.ByteOut.took })) c.args.setup.now.credentials nodes_question
    (Shows c.args.setup.now c.args.history.now c.args.duty.now) c.args.node c.args.text (unmet_text c.args.duty.now)
    c.args.links.now.items c.shows_in_time.new.links.items c.in-Ok.shown c.continue_if.result c.requires.text
    c.in-Ok.ensures.last c.continue_if.ensures

pub returns-in-Err-clause-waits : goal.returns-in-Err-clause-waits
returns-in-Err-clause-waits g c = inl c.in-Err.ensures.last
