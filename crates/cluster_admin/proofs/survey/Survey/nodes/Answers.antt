use Rattle.cluster_admin.proofs.Surveyed.{blank_beyond}
use Rattle.cluster_admin.proofs.survey.Survey.nodes.Goals as goal

pub returns-clause-slots : goal.returns-clause-slots
returns-clause-slots c = blank_beyond c.self.inside.tables.items c.args.self.now c.self.invariant c.self.view_is
