use Rattle.cluster_inspection.proofs.Returned.{unsurveyed_says}
use Rattle.cluster_inspection.proofs.Started.{no_cluster_refusal}
use Rattle.cluster_survey.specs.ClusterFaults.{text_of}
use Rattle.cluster_survey.specs.declared.cluster_fault.ClusterFault.TheVariants as cluster
use Rattle.cluster_inspection.proofs.returning.unasked.Goals as goal

pub returns-clause-told : goal.returns-clause-told
returns-clause-told c = unsurveyed_says c.in_ok-unfound.field-0 c.from.result (text_of (cluster.Survey c.args.fault))
    c.in_ok-unfound.ensures.told c.from.ensures

pub returns-clause-refusal : goal.returns-clause-refusal
returns-clause-refusal c =
    no_cluster_refusal c.in_ok-unfound.field-0 c.from.result c.in_ok-unfound.ensures.unfound c.from.ensures
