use Rattle.plan_drawings.proofs.Tiled.{bars_show_owners}
use Rattle.plan_drawings.proofs.bars.bars_show_owners.Goals as goal

pub returns : goal.returns
returns c = bars_show_owners
