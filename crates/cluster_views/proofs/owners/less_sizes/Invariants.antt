use Rattle.std.proofs.Common.{◌≡◌, ◌+◌, take}
use Rattle.std.specs.List.{sum_by}
use Rattle.cluster_views.specs.Views.{size_of}
use Rattle.cluster_views.proofs.owners.less_sizes.Given as goal

-- what is left, and what the words before list, is what was left before
abbrev pub invariant-loop-word : goal.invariant-loop-word
invariant-loop-word l = l.less + sum_by size_of (take l.word-index l.words) ≡ l.left
