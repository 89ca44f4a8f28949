use Rattle.std.proofs.Common.{◌≡◌, length}
use Rattle.std.specs.List.{list_any}
use Rattle.cluster_views.specs.Numbers.{numbers_to}
use Rattle.cluster_views.specs.Surveying.{has_mark}
use Rattle.cluster_views.proofs.Firsts.{numbers_from}
use Rattle.cluster_views.proofs.agreement.is_marked.Given as goal

-- no node before has a mark
abbrev pub invariant-loop-number : goal.invariant-loop-number
invariant-loop-number l =
    list_any (has_mark l.survey l.slot) (numbers_to (length l.survey.rows))
    ≡ list_any (has_mark l.survey l.slot) (numbers_from (length l.survey.rows) l.number)
