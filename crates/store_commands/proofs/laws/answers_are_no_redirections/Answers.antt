use Rattle.store_commands.proofs.NoRedirections.{answers_are_no_redirections}
use Rattle.store_commands.proofs.laws.answers_are_no_redirections.Goals as goal

pub returns : goal.returns
returns c = answers_are_no_redirections
