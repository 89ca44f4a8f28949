use Rattle.cluster_cli.proofs.Laid.{weights_are_by_name}
use Rattle.cluster_cli.proofs.laws.weights_are_by_name.Goals as goal

pub returns : goal.returns
returns c = weights_are_by_name
