use Rattle.std.proofs.Common.{◌≡◌, length}
use Rattle.cluster_views.specs.Numbers.{first_given, numbers_to}
use Rattle.cluster_views.proofs.Firsts.{numbers_from}
use Rattle.node_forgetting.specs.Holding.{hold_at}
use Rattle.node_forgetting.proofs.holding.hold_by.Given as goal

-- nothing before holds the node
abbrev pub invariant-loop-number : goal.invariant-loop-number
invariant-loop-number l =
    first_given (hold_at l.survey l.node l.at) (numbers_to 16384) ≡ first_given (hold_at l.survey l.node l.at) (numbers_from 16384 l.number)
