use Rattle.std.proofs.Common.{◌≡◌, ◌++◌}
use Rattle.std.specs.List.{flat_map}
use Rattle.cluster_views.specs.Numbers.{numbers_to}
use Rattle.cluster_views.proofs.Firsts.{numbers_from}
use Rattle.survey_texts.specs.Texts.{marks_of}
use Rattle.survey_texts.proofs.printing.put_all_marks.Given as goal

-- the marks of the slots before, and then those of the others
abbrev pub invariant-loop-number : goal.invariant-loop-number
invariant-loop-number l =
    l.fn.out.items ++ flat_map (marks_of l.survey) (numbers_to 16384)
    ≡ l.out.items ++ flat_map (marks_of l.survey) (numbers_from 16384 l.number)
