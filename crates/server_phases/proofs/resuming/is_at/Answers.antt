use Rattle.std.proofs.Common.{◌∙◌}
use Rattle.cluster_admin.specs.Surveys.{phase_seen}
use Rattle.server_phases.proofs.Moved.{stay_by}
use Rattle.server_phases.proofs.resuming.is_at.Goals as goal

pub returns-in-Some : goal.returns-in-Some
returns-in-Some c phases shows =
    let v = c.args.survey.now in
    let s = c.args.slot in
    c.stays_at.ensures v s
    ∙ stay_by v s c.args.node (phase_seen v s c.in-Some.phase) (phases s) c.in-Some.ensures.phase (shows s)
