use Rattle.std.proofs.Common.{refl}
use Rattle.client_commands.specs.Table.{rows}
use Rattle.client_commands.proofs.table.commands.Goals as goal

pub returns : goal.returns
unfolding rows
returns c = refl
