-- Which names are one name: what `==` of names answers.
use Rattle.std.specs.Prelude.{Bool}
use Rattle.client_commands.specs.contracts.name.CommandNamePartialEq.TheImpl as names
use Rattle.client_commands.specs.declared.name.CommandName.{CommandName}

abbrev pub is_name : CommandName → CommandName → Bool
is_name = (names.ghosts).eq
