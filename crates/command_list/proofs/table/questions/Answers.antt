use Rattle.std.proofs.Common.{refl}
use Rattle.command_list.proofs.table.questions.Goals as goal

pub returns : goal.returns
returns c = refl
