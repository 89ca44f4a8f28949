use Rattle.std.proofs.Common.{◌≡◌, length}
use Rattle.cluster_views.specs.Numbers.{first_given, numbers_to}
use Rattle.cluster_views.specs.Surveying.{Views, epochs_of, same_epoch}
use Rattle.cluster_views.proofs.Firsts.{numbers_from}
use Rattle.cluster_views.proofs.agreement.same_epoch_as.Given as goal

-- all before have other epochs
abbrev pub invariant-loop-number : goal.invariant-loop-number
invariant-loop-number l = (views : Views) → l.epochs ≡ epochs_of l.book views
    → first_given (same_epoch l.book views l.other) (numbers_to (length l.book))
    ≡ first_given (same_epoch l.book views l.other) (numbers_from (length l.book) l.number)
