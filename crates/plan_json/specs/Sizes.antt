-- How long the text of a value of JSON is.
use Rattle.std.specs.Prelude.{ℕ, ◌+◌, false, max, List, [], ◌∷◌, length}
use Rattle.plan_outlines.specs.declared.nodes.NodeServer.{NodeServer}
use Rattle.serde_json.specs.Data.{Data, Members}
use Rattle.serde_json.specs.View.{items_of}
use Rattle.serde_json.specs.Written.{compact_text, items_text, members_text}
use Rattle.plan_json.specs.Values.{text_data}

-- an object without its opening brace
abbrev pub size : Members → ℕ
size ms = length (members_text false ms)

-- an array without its opening bracket
abbrev pub items_size : List Data → ℕ
items_size ds = length (items_text false (items_of ds))

-- bytes as a string of JSON, with its quotes
abbrev pub text_size : List ℕ → ℕ
text_size t = length (compact_text (text_data t))

-- the host and the ID of a server
abbrev pub names_size : NodeServer → ℕ
names_size s = text_size s.host + text_size s.name

-- those of the server of which they are longest
abbrev pub longest : List NodeServer → ℕ
longest [] = 0
longest (s ∷ ss) = max (names_size s) (longest ss)
