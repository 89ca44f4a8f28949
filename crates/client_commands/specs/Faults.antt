-- Why a request is no command.
use Rattle.std.specs.Prelude.{ℕ, Bool, true, false, List, codes}
use Rattle.client_commands.specs.declared.fault.CommandFault.{CommandFault}
use Rattle.client_commands.specs.declared.fault.CommandFault.TheVariants.{Unknown, ArgumentCount, Memory}

abbrev pub is_memory : CommandFault → Bool
is_memory Unknown = false
is_memory ArgumentCount = false
is_memory Memory = true

-- what is printed of a fault
abbrev pub text_of : CommandFault → List ℕ
text_of Unknown = codes "unknown command"
text_of ArgumentCount = codes "wrong number of arguments"
text_of Memory = codes "out of memory"
