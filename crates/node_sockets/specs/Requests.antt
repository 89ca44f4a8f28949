-- What is written to a node.
use Rattle.std.specs.Prelude.{ℕ, Bool, true, false, List, ◌++◌, codes}
use Rattle.client_commands.specs.Spelling.{spelled}
use Rattle.client_commands.specs.declared.command.Command.{Command}
use Rattle.resp2_wire.specs.Encoding.{encoding}
use Rattle.resp2_wire.specs.RequestLaws.{bulks}
use Rattle.resp2_wire.specs.Tree.{array}

abbrev pub asking_text : List ℕ
asking_text = codes "*1\r\n$6\r\nASKING\r\n"

-- the command, after ASKING or without
abbrev pub request_text : Bool → Command → List ℕ
request_text true c = asking_text ++ encoding (array (bulks (spelled c)))
request_text false c = encoding (array (bulks (spelled c)))

-- CLUSTER SLOTS
abbrev pub look_text : List ℕ
look_text = codes "*2\r\n$7\r\nCLUSTER\r\n$5\r\nSLOTS\r\n"
