use Rattle.std.proofs.Common.{rules, ◌≡◌, ◌<◌, ◌+◌, ◌++◌, ◌==◌, arith, length, not}
use Rattle.redis_servers.proofs.Listeners.{one_more_hearer}
use Rattle.redis_servers.specs.Hearers.{hearer_if}
use Rattle.redis_servers.proofs.hearers.add_hearers.Goals as goal

pub loop-number-preserved : goal.loop-number-preserved
loop-number-preserved c =
    let few : c.loop-number.number < length c.args.survey.now.rows = search rules in
    let is : c.add_hearer.new.hearers.items
    ≡ c.loop-number.hearers.items
    ++ hearer_if (not (c.loop-number.number == c.args.target)) c.loop-number.number c.args.slot c.args.target =
    search rules in
    one_more_hearer c.args.slot c.args.target c.loop-number.number (c.loop-number.number + 1) c.args.survey.now.rows
    c.args.hearers.now.items c.loop-number.hearers.items c.add_hearer.new.hearers.items (omega arith) few
    c.loop-number.invariant is
