use Rattle.std.proofs.Common.{ap}
use Rattle.reshard_planner.proofs.Written.{parts_after, range_room}
use Rattle.reshard_planner.proofs.grouping.take_on.Goals as goal

pub returns-clause-taken : goal.returns-clause-taken
returns-clause-taken c = parts_after c.args.batch c.args.plan.now.lines _ c.args.range c.with.result c.in-Some.range _ c.args.next.now
    c.line.result c.in-Some.is c.with.ensures c.in_default-with.is c.line.ensures (ap (λ p. p.lines) c.in_ok-push.ensures.ok) c.of-2.ensures

pub push-requires-clause-room : goal.push-requires-clause-room
push-requires-clause-room c =
    range_room c.args.plan.now.names c.args.plan.now.lines c.args.range c.in-Some.range c.line.result c.args.batch
    c.in-Some.is c.line.ensures c.requires.room
