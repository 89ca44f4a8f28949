use Rattle.plan_outlines.proofs.Covering.{ranges_cover}
use Rattle.plan_outlines.proofs.laws.ranges_cover_all_slots.Goals as goal

pub returns : goal.returns
returns c = ranges_cover
