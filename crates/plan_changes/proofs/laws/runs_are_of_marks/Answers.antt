use Rattle.plan_changes.proofs.Apart.{are_of_marks}
use Rattle.plan_changes.proofs.laws.runs_are_of_marks.Goals as goal

pub returns : goal.returns
returns c = are_of_marks
