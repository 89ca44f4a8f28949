use Rattle.cluster_views.proofs.Kept.{blank_beyond}
use Rattle.cluster_views.proofs.server_survey.ServerSurvey.nodes.Goals as goal

pub returns-clause-slots : goal.returns-clause-slots
returns-clause-slots c = blank_beyond c.self.inside.rows.items c.args.self.now c.self.invariant c.self.view_is
