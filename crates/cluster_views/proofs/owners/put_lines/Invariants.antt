use Rattle.std.proofs.Common.{◌≡◌, ◌<◌, ℕ, take, None}
use Rattle.std.specs.Prelude.{slice_index_or}
use Rattle.std.specs.Option.{option_or}
use Rattle.cluster_views.specs.Views.{owner_said}
use Rattle.cluster_views.proofs.owners.put_lines.Given as goal

-- the slots that the lines before list have an owner
abbrev pub invariant-loop-line : goal.invariant-loop-line
invariant-loop-line l = (s : ℕ) → s < 16384 → slice_index_or l.row s None
    ≡ option_or (slice_index_or l.initial.row s None) (owner_said l.book (take l.line-index l.lines) s)
