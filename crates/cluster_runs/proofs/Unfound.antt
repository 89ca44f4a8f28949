-- Where there is no survey, what was to run is refused.
use Rattle.std.proofs.Common.{Ok, Err}
use Rattle.std.specs.Prelude.{IfErr, IsErrAnd, Result}
use Rattle.cluster_inspection.specs.Starts.{IsUnfound}
use Rattle.cluster_inspection.specs.Refusals.{IsNoClusterOf, IsRefusal}
use Rattle.cluster_inspection.specs.declared.no_cluster.NoCluster.{NoCluster}
use Rattle.cluster_inspection.specs.declared.refusal.Refusal.{Refusal}
use Rattle.cluster_inspection.proofs.Started.{no_cluster_refusal}

pub refused_unfound : {T : Type 0} (n : NoCluster) (r : Result T Refusal) → IsUnfound n
    → IsErrAnd r (IsNoClusterOf n) → IfErr r IsRefusal
refused_unfound n (Ok x) none is = absurd is
refused_unfound n (Err e) none is = no_cluster_refusal n e none is
