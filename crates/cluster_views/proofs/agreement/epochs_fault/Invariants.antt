use Rattle.std.proofs.Common.{◌≡◌, length}
use Rattle.cluster_views.specs.Numbers.{first_given, numbers_to}
use Rattle.cluster_views.specs.Surveying.{other_epoch_at}
use Rattle.cluster_views.proofs.Firsts.{numbers_from}
use Rattle.cluster_views.proofs.agreement.epochs_fault.Given as goal

-- all before tell the nodes' own epochs
abbrev pub invariant-loop-number : goal.invariant-loop-number
invariant-loop-number l =
    first_given (other_epoch_at l.book l.views) (numbers_to (length l.book))
    ≡ first_given (other_epoch_at l.book l.views) (numbers_from (length l.book) l.number)
