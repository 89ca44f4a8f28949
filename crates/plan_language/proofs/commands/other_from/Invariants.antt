use Rattle.std.proofs.Common.{◌≡◌}
use Rattle.plan_language.specs.MovesLeft.{others_from}
use Rattle.plan_language.proofs.commands.other_from.Given as goal

abbrev pub invariant-loop-node : goal.invariant-loop-node
invariant-loop-node l = others_from l.fn.nodes l.fn.source l.fn.target l.fn.from
    ≡ others_from l.fn.nodes l.fn.source l.fn.target l.node
