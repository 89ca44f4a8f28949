use Rattle.cluster_views.proofs.Naming.{epochs_count}
use Rattle.cluster_views.proofs.agreement.other_epoch_at.Goals as goal

pub first_other-requires-clause-epochs : goal.first_other-requires-clause-epochs
first_other-requires-clause-epochs c =
    epochs_count c.args.book.now c.args.views.now c.args.epochs.now c.requires.epochs
