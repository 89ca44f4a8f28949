use Rattle.std.proofs.Common.{◌≡◌, ℕ, take}
use Rattle.std.specs.FinMap as finite
use Rattle.slot_marks.specs.Rows.{AreOfSlots}
use Rattle.cluster_views.specs.Numbers.{first_given}
use Rattle.cluster_views.specs.Views.{imports, migrates}
use Rattle.cluster_views.proofs.marks.row_with.Given as goal

-- the marks that the words before are
abbrev pub invariant-loop-word : goal.invariant-loop-word
invariant-loop-word l = ((s : ℕ) → finite.get l.migrating s ≡ first_given (migrates l.book s) (take l.word-index l.words))
    × ((s : ℕ) → finite.get l.importing s ≡ first_given (imports l.book s) (take l.word-index l.words))
    × AreOfSlots l.migrating × AreOfSlots l.importing
