use Rattle.server_commands.proofs.Nowhere.{hides_passwords}
use Rattle.server_commands.proofs.laws.passwords_are_hidden.Goals as goal

pub returns : goal.returns
returns c = hides_passwords
