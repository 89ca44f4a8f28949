-- A command that is answered an error changes nothing.
use Rattle.std.specs.Prelude.{◌≡◌, true}
use Rattle.store_commands.specs.Apply.{answer, apply}
use Rattle.store_commands.specs.Replies.{is_error}
use Rattle.store_commands.specs.Store.{Store}
use Rattle.client_commands.specs.declared.command.Command.{Command}

abbrev pub ErrorsChangeNothing : Type 0
ErrorsChangeNothing = (s : Store) (c : Command) → is_error (answer s c) ≡ true → apply s c ≡ s
