use Rattle.std.proofs.Common.{◌≡◌, ◌++◌, take}
use Rattle.server_phases.specs.ToldFirst.{of_kind}
use Rattle.server_phases.proofs.told_first.put_kind.Given as goal

-- those of the lines before were put
abbrev pub invariant-loop-line : goal.invariant-loop-line
invariant-loop-line l =
    l.plan ≡ record l.fn.plan { lines = l.fn.plan.lines ++ of_kind l.survey l.told (take l.line-index l.fn.lines) }
