use Rattle.plan_pages.proofs.Narrow.{pages_are_narrow}
use Rattle.plan_pages.proofs.laws.pages_are_narrow.Goals as goal

pub returns : goal.returns
returns c = pages_are_narrow
