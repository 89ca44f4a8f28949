use Rattle.std.proofs.Common.{◌≡◌, ◌<◌, ℕ, take, None}
use Rattle.std.specs.Prelude.{slice_index_or}
use Rattle.std.specs.Option.{option_or}
use Rattle.cluster_views.specs.Views.{owned_by}
use Rattle.cluster_views.proofs.owners.put_words.Given as goal

-- the slots that the words before list have an owner
abbrev pub invariant-loop-word : goal.invariant-loop-word
invariant-loop-word l = (s : ℕ) → s < 16384
    → slice_index_or l.row s None ≡ option_or (slice_index_or l.initial.row s None) (owned_by l.owner s (take l.word-index l.words))
