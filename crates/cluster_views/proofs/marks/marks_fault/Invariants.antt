use Rattle.std.proofs.Common.{◌≡◌, drop}
use Rattle.cluster_views.specs.Numbers.{first_given}
use Rattle.cluster_views.specs.Views.{mark_fault}
use Rattle.cluster_views.proofs.marks.marks_fault.Given as goal

-- no word before has a fault
abbrev pub invariant-loop-word : goal.invariant-loop-word
invariant-loop-word l = first_given (mark_fault l.book l.at) l.words ≡ first_given (mark_fault l.book l.at) (drop l.word-index l.words)
