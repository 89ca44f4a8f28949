use Rattle.cluster_inspection.proofs.Started.{no_cluster_refusal}
use Rattle.cluster_inspection.proofs.verify.answer_at.Goals as goal

pub returns-then-not-is_clean-clause-refusal : goal.returns-then-not-is_clean-clause-refusal
returns-then-not-is_clean-clause-refusal g c =
    no_cluster_refusal c.in_ok-open_slots.field-0 c.from.result c.in_ok-open_slots.ensures c.from.ensures
