use Rattle.std.proofs.Common.{subst, sym}
use Rattle.key_slots.proofs.OwnerTables.{table_of}
use Rattle.cluster_admin.specs.Surveys.{IsOpenSurvey}
use Rattle.plan_runner.proofs.Surveyed.{closed_open}
use Rattle.rehearsal.proofs.plan_reading.read_legal.Goals as goal

pub verify_and_arm-requires-clause-phases : goal.verify_and_arm-requires-clause-phases
verify_and_arm-requires-clause-phases c =
    let o = c.first_owners-owners.result.now in
    let nodes = c.nodes-nodes in
    subst IsOpenSurvey (sym c.in_ok-survey.ensures)
    (closed_open o (table_of o nodes.result nodes.ensures.value nodes.ensures.width nodes.ensures.some
    nodes.ensures.most nodes.ensures.named))
