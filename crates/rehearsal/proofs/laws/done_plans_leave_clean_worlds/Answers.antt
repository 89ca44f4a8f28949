use Rattle.rehearsal.proofs.CarryingOut.{headline_once_done, honest_once_done}
use Rattle.rehearsal.proofs.laws.done_plans_leave_clean_worlds.Goals as goal

pub returns-clause-headline : goal.returns-clause-headline
returns-clause-headline c = headline_once_done c.headline.ensures.holds

pub returns-clause-honest : goal.returns-clause-honest
returns-clause-honest c = honest_once_done
