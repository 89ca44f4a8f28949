use Rattle.std.proofs.Common.{arith}
use Rattle.command_list.proofs.Rows.{count, total}
use Rattle.command_list.proofs.table.listed_count.Goals as goal

pub overflow_cast-result : goal.overflow_cast-result
overflow_cast-result c = omega (arith, count _ _ c.commands.ensures c.questions.ensures, total)

pub returns : goal.returns
returns c = omega (arith, count _ _ c.commands.ensures c.questions.ensures, total)
