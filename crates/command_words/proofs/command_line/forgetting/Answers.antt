use Rattle.command_words.proofs.CommandLines.{fault_lines}
use Rattle.command_words.proofs.command_line.forgetting.Goals as goal

pub returns-in-Err-clause-lines : goal.returns-in-Err-clause-lines
returns-in-Err-clause-lines c = fault_lines c.in-Err.fault c.wrong.result c.wrong.ensures
