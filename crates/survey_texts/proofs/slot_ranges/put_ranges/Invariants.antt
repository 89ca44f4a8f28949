use Rattle.std.proofs.Common.{◌≡◌, ◌++◌}
use Rattle.std.specs.List.{flat_map}
use Rattle.cluster_views.specs.Numbers.{numbers_to}
use Rattle.cluster_views.proofs.Firsts.{numbers_from}
use Rattle.survey_texts.specs.Details.{range_part}
use Rattle.survey_texts.proofs.slot_ranges.put_ranges.Given as goal

-- what is put of the slots before, and then what is put of the others
abbrev pub invariant-loop-number : goal.invariant-loop-number
invariant-loop-number l =
    l.fn.out.items ++ flat_map (range_part l.survey l.node) (numbers_to 16384)
    ≡ l.out.items ++ flat_map (range_part l.survey l.node) (numbers_from 16384 l.number)
