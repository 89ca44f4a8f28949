use Rattle.std.proofs.Common.{◌≡◌, ◌≤◌, ℕ, length}
use Rattle.cluster_runs.specs.Batches.{most_keys}
use Rattle.plan_language.specs.Lines.{IsLine}
use Rattle.std.specs.List.{AllByRecursion}
use Rattle.cluster_runs.proofs.batches.most_keys.Given as goal

-- what is left of the lines continues from the most so far
abbrev pub invariant-loop-left : goal.invariant-loop-left
invariant-loop-left l = (most_keys 1 l.lines ≡ most_keys l.most l.left) × (1 ≤ l.most) × (l.most ≤ 1000)
    × AllByRecursion IsLine l.left

abbrev pub decreases-loop-left : goal.decreases-loop-left
decreases-loop-left l = length l.left
