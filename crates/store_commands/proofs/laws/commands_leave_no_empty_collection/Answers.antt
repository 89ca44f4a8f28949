use Rattle.store_commands.proofs.NoEmptyCollections.{keeps_no_empty_collection}
use Rattle.store_commands.proofs.laws.commands_leave_no_empty_collection.Goals as goal

pub returns : goal.returns
returns c = keeps_no_empty_collection
