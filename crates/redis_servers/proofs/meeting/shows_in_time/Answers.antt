use Rattle.std.proofs.Common.{rules, suc}
use Rattle.redis_servers.specs.Asking.{AsksNode, nodes_question}
use Rattle.redis_servers.proofs.Turning.{one_look_more}
use Rattle.redis_servers.specs.Meeting.{Shows}
use Rattle.redis_servers.proofs.meeting.shows_in_time.Goals as goal

pub loop-preserved : goal.loop-preserved
loop-preserved g c =
    let before = c.loop.invariant in (
      suc before.0,
      one_look_more (AsksNode (record { gave = g.I.ByteIn.gave; took = g.O.ByteOut.took })) c.args.setup.now.credentials nodes_question
          (Shows c.args.setup.now c.args.history.now c.args.duty.now) c.args.node before.0 c.args.links.now.items
          c.loop.links.items c.look_for.new.links.items c.in-Ok-false.field-0 before.1 c.in-Ok-false.ensures.turn c.in-Ok-false.field-0-test,
      search rules,
    )
