-- The nodes that are to forget another one: all others that it lists, masters and replicas.
use Rattle.std.specs.Prelude.{ℕ, Bool, not, List, filter, map}
use Rattle.byte_texts.specs.Words.{is}
use Rattle.listed_nodes.specs.declared.node_line.NodeLine.{NodeLine}
use Rattle.cluster_survey.specs.Masters.{server_of}
use Rattle.server_commands.specs.declared.book.Server.{Server}

-- the line is not that of the node with this ID
abbrev pub is_other : (id : List ℕ) → NodeLine → Bool
is_other id l = not (is id l.name)

-- in the order of the lines
abbrev pub others : (id : List ℕ) → List NodeLine → List Server
others id ls = map server_of (filter (is_other id) ls)
