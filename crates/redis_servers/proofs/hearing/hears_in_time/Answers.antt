use Rattle.std.proofs.Common.{rules, suc}
use Rattle.redis_servers.specs.Asking.{AsksNode, nodes_question}
use Rattle.redis_servers.proofs.Turning.{one_more}
use Rattle.redis_servers.proofs.hearing.hears_in_time.Goals as goal

pub loop-preserved : goal.loop-preserved
loop-preserved g c =
    let before = c.loop.invariant in (
      suc before.0,
      one_more (AsksNode (record { gave = g.I.ByteIn.gave; took = g.O.ByteOut.took }) nodes_question) c.args.login.now c.args.name.now c.args.source c.args.target before.0 c.args.links.now.items
          c.loop.links.items c.has_heard.new.links.items c.in-Ok-false.field-0 before.1 c.in-Ok-false.ensures.turn c.in-Ok-false.field-0-test,
      search rules,
    )
