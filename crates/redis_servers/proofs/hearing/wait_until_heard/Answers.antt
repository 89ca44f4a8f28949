use Rattle.std.proofs.Common.{inl}
use Rattle.redis_servers.specs.Asking.{AsksNode, nodes_question}
use Rattle.redis_servers.proofs.Turning.{waited_by}
use Rattle.redis_servers.proofs.hearing.wait_until_heard.Goals as goal

pub returns-in-Ok-clause-waits : goal.returns-in-Ok-clause-waits
returns-in-Ok-clause-waits g c =
    waited_by (AsksNode (record { gave = g.I.ByteIn.gave; took = g.O.ByteOut.took }) nodes_question) c.args.login.now c.args.name.now
    c.args.source c.args.target c.args.text c.args.links.now.items c.hears_in_time.new.links.items c.in-Ok.heard c.continue_if.result
    c.requires.text c.in-Ok.ensures.last c.continue_if.ensures

pub returns-in-Err-clause-waits : goal.returns-in-Err-clause-waits
returns-in-Err-clause-waits g c = inl c.in-Err.ensures.last
