use Rattle.std.proofs.Common.{◌≡◌, length}
use Rattle.cluster_views.specs.Naming.{AreToldIn}
use Rattle.cluster_views.specs.Numbers.{first_given, numbers_to}
use Rattle.cluster_views.specs.Surveying.{Views, epochs_of, other_epoch, view_at}
use Rattle.cluster_views.proofs.Firsts.{numbers_from}
use Rattle.cluster_views.proofs.agreement.first_other.Given as goal

-- all before have the same epoch
abbrev pub invariant-loop-number : goal.invariant-loop-number
invariant-loop-number l = (views : Views) → AreToldIn l.book (view_at views l.at) l.row
    → l.epochs ≡ epochs_of l.book views
    → first_given (other_epoch l.book views l.at) (numbers_to (length l.book))
    ≡ first_given (other_epoch l.book views l.at) (numbers_from (length l.book) l.number)
