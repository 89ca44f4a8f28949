use Rattle.plan_previews.proofs.Unshown.{no_answer}
use Rattle.plan_previews.proofs.counting.counts_of.Goals as goal

pub returns-clause-uncounted : goal.returns-clause-uncounted
returns-clause-uncounted g c =
    no_answer c.in_ok-unfound-in-Err.field-0 c.from.result c.in_ok-unfound-in-Err.ensures.unfound c.from.ensures
