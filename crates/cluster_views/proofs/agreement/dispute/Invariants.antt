use Rattle.std.proofs.Common.{◌≡◌}
use Rattle.cluster_views.specs.Numbers.{first_given, numbers_to}
use Rattle.cluster_views.specs.Surveying.{dispute_at}
use Rattle.cluster_views.proofs.Firsts.{numbers_from}
use Rattle.cluster_views.proofs.agreement.dispute.Given as goal

-- on all before the servers agree
abbrev pub invariant-loop-number : goal.invariant-loop-number
invariant-loop-number l =
    first_given (dispute_at l.survey) (numbers_to 16384)
    ≡ first_given (dispute_at l.survey) (numbers_from 16384 l.number)
