use Rattle.std.proofs.Common.{refl}
use Rattle.client_questions.specs.Kinds.{rows}
use Rattle.client_questions.proofs.laws.command_tells_questions.Goals as goal

pub returns : goal.returns
unfolding rows
returns c = refl
