use Rattle.cluster_inspection.proofs.Started.{no_cluster_refusal}
use Rattle.cluster_inspection.proofs.verify.load_of.Goals as goal

pub returns-clause-refusal : goal.returns-clause-refusal
returns-clause-refusal g c =
    no_cluster_refusal c.in_ok-unfound-in-Err.field-0 c.from.result c.in_ok-unfound-in-Err.ensures.unfound c.from.ensures
