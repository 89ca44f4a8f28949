use Rattle.std.proofs.Common.{◌≡◌, ◌++◌, drop}
use Rattle.redis_servers.specs.Hearers.{hearers_from}
use Rattle.redis_servers.proofs.hearers.add_hearers.Given as goal

-- of the nodes before this one
abbrev pub invariant-loop-number : goal.invariant-loop-number
invariant-loop-number l = l.initial.hearers.items ++ hearers_from l.slot l.target 0 l.survey.rows
    ≡ l.hearers.items ++ hearers_from l.slot l.target l.number (drop l.number l.survey.rows)
