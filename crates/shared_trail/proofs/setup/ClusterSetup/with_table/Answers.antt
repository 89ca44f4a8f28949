use Rattle.shared_trail.proofs.Keeps.{opens}
use Rattle.shared_trail.proofs.setup.ClusterSetup.with_table.Goals as goal

pub of_words-requires : goal.of_words-requires
of_words-requires c = opens c.args.world
