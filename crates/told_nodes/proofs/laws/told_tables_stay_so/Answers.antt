use Rattle.told_nodes.proofs.Changing.{example_is_told, tables_stay_so}
use Rattle.told_nodes.proofs.laws.told_tables_stay_so.Goals as goal

pub returns-clause-tables : goal.returns-clause-tables
returns-clause-tables c = tables_stay_so

pub returns-clause-example : goal.returns-clause-example
returns-clause-example c = example_is_told
