use Rattle.cluster_views.proofs.Naming.{epochs_count}
use Rattle.cluster_views.proofs.agreement.survey_fault.Goals as goal

pub collision-requires : goal.collision-requires
collision-requires c =
    epochs_count c.args.book.now c.args.views.now c.args.epochs.now c.requires.epochs
