use Rattle.std.proofs.Common.{◌≡◌, ◌++◌}
use Rattle.std.specs.List.{flat_map}
use Rattle.cluster_views.specs.Numbers.{numbers_to}
use Rattle.cluster_views.proofs.Firsts.{numbers_from}
use Rattle.server_phases.specs.ServerPhases.{ServerPhases, ShowsPhases}
use Rattle.plan_previews.specs.Standing.{strange_line}
use Rattle.plan_previews.proofs.standing.strange_lines.Given as goal

-- what the slots before give, and then the others
abbrev pub invariant-loop-number : goal.invariant-loop-number
invariant-loop-number l = (phases : ServerPhases) → ShowsPhases l.survey phases
    → flat_map (λ s. strange_line s (phases s)) (numbers_to 16384)
    ≡ l.lines.items ++ flat_map (λ s. strange_line s (phases s)) (numbers_from 16384 l.number)
