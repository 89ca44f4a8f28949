use Rattle.store_commands.proofs.Refusals as refusals
use Rattle.store_commands.proofs.laws.errors_change_nothing.Goals as goal

pub returns : goal.returns
returns c = refusals.errors_change_nothing
