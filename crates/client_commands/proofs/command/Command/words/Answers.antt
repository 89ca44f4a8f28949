use Rattle.client_commands.proofs.Spellings.{read_again}
use Rattle.client_commands.proofs.command.Command.words.Goals as goal

pub returns-clause-read : goal.returns-clause-read
returns-clause-read c = λ request read. read_again c.args.self.now c.spelled.result c.spelled.ensures request read
