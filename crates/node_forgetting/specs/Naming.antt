-- The node that the words name.
use Rattle.std.specs.Prelude.{ℕ, cond, List, Option, None, Some, nat_lt, option_and_then, string_bytes}
use Rattle.key_slots.specs.Numbers.{node_among}
use Rattle.command_words.specs.declared.usage.ForgetWords.{ForgetWords}

-- one below this number
abbrev pub below : ℕ → ℕ → Option ℕ
below nodes n = cond (nat_lt n nodes) (Some n) None

-- `n3` in a cluster of more than three
abbrev pub node_in : (nodes : ℕ) → List ℕ → Option ℕ
node_in nodes word = option_and_then (below nodes) (node_among 255 word)

abbrev pub node_named : (nodes : ℕ) → ForgetWords → Option ℕ
node_named nodes g = node_in nodes (string_bytes g.node)
