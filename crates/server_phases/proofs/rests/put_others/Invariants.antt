use Rattle.std.proofs.Common.{◌≡◌, ◌++◌}
use Rattle.plan_language.specs.Lines.{others}
use Rattle.plan_language.specs.MovesLeft.{others_from}
use Rattle.plan_semantics.specs.Plans.{tell}
use Rattle.server_phases.specs.Texts.{more_text}
use Rattle.server_phases.proofs.rests.put_others.Given as goal

-- the text so far, and that of the nodes that are left
abbrev pub invariant-loop-number : goal.invariant-loop-number
invariant-loop-number l =
    l.fn.out.items ++ more_text (tell l.slot l.target (others l.nodes l.source l.target))
    ≡ l.out.items ++ more_text (tell l.slot l.target (others_from l.nodes l.source l.target l.number))
