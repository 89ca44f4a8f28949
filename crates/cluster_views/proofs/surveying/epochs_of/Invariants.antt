use Rattle.std.proofs.Common.{◌≡◌, ◌++◌, length, map}
use Rattle.cluster_views.specs.Surveying.{epoch_at, epochs_of}
use Rattle.cluster_views.proofs.Firsts.{numbers_from}
use Rattle.cluster_views.proofs.surveying.epochs_of.Given as goal

-- the epochs of the nodes before, and then those of the others
abbrev pub invariant-loop-number : goal.invariant-loop-number
invariant-loop-number l = epochs_of l.book l.views ≡ l.epochs.items ++ map (λ m. epoch_at l.book l.views m m) (numbers_from (length l.book) l.number)
