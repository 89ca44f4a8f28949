use Rattle.reshard_theorem.proofs.Shown.{surveys_show_phases, surveys_count_nodes}
use Rattle.reshard_theorem.proofs.laws.surveys_show_phases.Goals as goal

pub returns-clause-shown : goal.returns-clause-shown
returns-clause-shown c = surveys_show_phases

pub returns-clause-counted : goal.returns-clause-counted
returns-clause-counted c = surveys_count_nodes
