use Rattle.std.proofs.Common.{◌≡◌, ◌++◌, length}
use Rattle.std.specs.List.{flat_map}
use Rattle.cluster_views.specs.Numbers.{numbers_to}
use Rattle.cluster_views.proofs.Firsts.{numbers_from}
use Rattle.survey_texts.specs.Texts.{going_line}
use Rattle.survey_texts.proofs.printing.put_going.Given as goal

-- the marks of the nodes before, and then those of the others
abbrev pub invariant-loop-number : goal.invariant-loop-number
invariant-loop-number l =
    l.fn.out.items ++ flat_map (going_line l.survey l.slot) (numbers_to (length l.survey.rows))
    ≡ l.out.items ++ flat_map (going_line l.survey l.slot) (numbers_from (length l.survey.rows) l.number)
