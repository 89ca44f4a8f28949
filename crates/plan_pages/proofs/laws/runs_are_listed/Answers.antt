use Rattle.plan_pages.proofs.ReadBack.{runs_are_listed}
use Rattle.plan_pages.proofs.laws.runs_are_listed.Goals as goal

pub returns : goal.returns
returns c = runs_are_listed
