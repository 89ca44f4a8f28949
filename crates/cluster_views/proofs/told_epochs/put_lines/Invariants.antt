use Rattle.std.proofs.Common.{◌≡◌, ◌<◌, ℕ, length, take, None}
use Rattle.std.specs.Prelude.{slice_index_or}
use Rattle.std.specs.Option.{option_or}
use Rattle.cluster_views.specs.Naming.{told_by}
use Rattle.cluster_views.specs.Numbers.{first_given}
use Rattle.cluster_views.proofs.told_epochs.put_lines.Given as goal

-- what the lines before tell
abbrev pub invariant-loop-line : goal.invariant-loop-line
invariant-loop-line l = (k : ℕ) → k < length l.book → slice_index_or l.row k None
    ≡ option_or (slice_index_or l.initial.row k None) (first_given (told_by l.book k) (take l.line-index l.lines))
