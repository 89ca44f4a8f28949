use Rattle.std.proofs.Common.{◌≡◌, ◌++◌, length}
use Rattle.std.specs.List.{flat_map}
use Rattle.cluster_views.proofs.Firsts.{numbers_from}
use Rattle.plan_language.specs.Lines.{plan_commands}
use Rattle.cluster_runs.specs.Emptied.{emptied_line, emptied_lines}
use Rattle.cluster_runs.proofs.emptied.emptied_lines.Given as goal

-- the lines of the nodes before, and then those of the others
abbrev pub invariant-loop-number : goal.invariant-loop-number
invariant-loop-number l =
    emptied_lines l.survey (plan_commands (length l.survey.rows) l.plan.lines)
    ≡ l.out.items ++ flat_map (emptied_line l.survey (plan_commands (length l.survey.rows) l.plan.lines))
    (numbers_from (length l.survey.rows) l.number)
