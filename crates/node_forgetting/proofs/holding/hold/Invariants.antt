use Rattle.std.proofs.Common.{◌≡◌, length}
use Rattle.cluster_views.specs.Numbers.{first_given, numbers_to}
use Rattle.cluster_views.proofs.Firsts.{numbers_from}
use Rattle.node_forgetting.specs.Holding.{hold_by}
use Rattle.node_forgetting.proofs.holding.hold.Given as goal

-- nothing before holds the node
abbrev pub invariant-loop-number : goal.invariant-loop-number
invariant-loop-number l =
    first_given (hold_by l.survey l.node) (numbers_to (length l.survey.rows)) ≡ first_given (hold_by l.survey l.node) (numbers_from (length l.survey.rows) l.number)
