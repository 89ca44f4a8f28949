use Rattle.std.proofs.Common.{refl}
use Rattle.client_commands.specs.Table.{rows}
use Rattle.client_commands.proofs.Tables.{in_table}
use Rattle.client_commands.proofs.table.row_of.Goals as goal

pub returns : goal.returns
unfolding rows
returns c = in_table c.args.word.now _ c.first_named.result refl c.first_named.ensures
