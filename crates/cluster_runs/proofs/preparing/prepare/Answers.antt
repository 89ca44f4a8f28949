use Rattle.cluster_inspection.proofs.Started.{no_cluster_refusal}
use Rattle.cluster_runs.proofs.Unfound.{refused_unfound}
use Rattle.cluster_runs.proofs.preparing.prepare.Goals as goal

pub returns-then-not-is_clean-clause-refusal : goal.returns-then-not-is_clean-clause-refusal
returns-then-not-is_clean-clause-refusal g c =
    no_cluster_refusal c.in_ok-open_slots.field-0 c.from.result c.in_ok-open_slots.ensures c.from.ensures

pub returns-in_err-servers-clause-refusal : goal.returns-in_err-servers-clause-refusal
returns-in_err-servers-clause-refusal g c =
    refused_unfound c.in_err-servers.field-0.0 c.from_residual-in_err-servers.result c.in_err-servers.ensures.unfound
    c.from_residual-in_err-servers.ensures.1
