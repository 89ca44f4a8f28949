-- IDs of nodes in words.
use Rattle.std.specs.Prelude.{Bool, true, List, ℕ, Option, None, Some}
use Rattle.std.specs.List.{list_all}
use Rattle.byte_texts.specs.Parts.{parts}
use Rattle.listed_nodes.specs.Names.{is_name}

-- each of the parts between commas is 40 hexadecimal digits
abbrev pub are_ids : List ℕ → Bool
are_ids text = list_all is_name (parts 44 text)

abbrev pub are_ids_if_given : Option (List ℕ) → Bool
are_ids_if_given None = true
are_ids_if_given (Some text) = are_ids text
