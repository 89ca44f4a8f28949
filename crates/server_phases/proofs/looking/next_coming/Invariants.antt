use Rattle.std.proofs.Common.{◌≡◌, ◌==◌, cond, None, length}
use Rattle.cluster_views.specs.Numbers.{first_given}
use Rattle.cluster_views.proofs.Firsts.{numbers_from}
use Rattle.server_phases.specs.Strange.{next_coming, coming_at}
use Rattle.server_phases.proofs.looking.next_coming.Given as goal

-- none of the nodes before but the other one has a mark
abbrev pub invariant-loop-number : goal.invariant-loop-number
invariant-loop-number l =
    next_coming l.survey l.slot l.but
    ≡ first_given (λ n. cond (n == l.but) None (coming_at l.survey l.slot n)) (numbers_from (length l.survey.rows) l.number)
