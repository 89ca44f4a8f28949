use Rattle.rehearsal.proofs.SinceArming.{headline_since, honest_since}
use Rattle.rehearsal.proofs.laws.headline_since_arming.Goals as goal

pub returns-clause-headline : goal.returns-clause-headline
returns-clause-headline c = headline_since c.headline.ensures.holds c.driven_step_by_step.ensures.driven

pub returns-clause-honest : goal.returns-clause-honest
returns-clause-honest c = honest_since
