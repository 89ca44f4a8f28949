use Rattle.told_nodes.proofs.LineByLine.{nodes_are_read}
use Rattle.told_nodes.proofs.TheTable.{ids_are_distinct, lines_are_the_table}
use Rattle.told_nodes.proofs.laws.told_nodes_are_read.Goals as goal

pub returns-clause-read : goal.returns-clause-read
returns-clause-read c = nodes_are_read

pub returns-clause-table : goal.returns-clause-table
returns-clause-table c = lines_are_the_table

pub returns-clause-ids : goal.returns-clause-ids
returns-clause-ids c = ids_are_distinct
