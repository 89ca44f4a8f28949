use Rattle.std.proofs.Common.{◌∙◌, refl}
use Rattle.client_questions.specs.Kinds.{rows}
use Rattle.client_questions.proofs.Tables.{in_table}
use Rattle.client_questions.proofs.kind.kind_named.Goals as goal

pub returns : goal.returns
unfolding rows
returns c = c.kind_in.ensures ∙ in_table c.args.word.now _ c.first_named.result refl c.first_named.ensures
