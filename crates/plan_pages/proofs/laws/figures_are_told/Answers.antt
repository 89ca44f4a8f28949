use Rattle.plan_pages.proofs.ReadBack.{figures_are_told}
use Rattle.plan_pages.proofs.laws.figures_are_told.Goals as goal

pub returns : goal.returns
returns c = figures_are_told
