use Rattle.std.proofs.Common.{◌≡◌, length}
use Rattle.std.specs.List.{list_all}
use Rattle.listed_nodes.specs.Names.{is_name}
use Rattle.command_words.specs.Ids.{are_ids}
use Rattle.command_words.proofs.ids.are_ids.Given as goal

-- what is left says the same as the whole
abbrev pub invariant-loop-part : goal.invariant-loop-part
invariant-loop-part l = are_ids l.text ≡ list_all is_name l.parts

abbrev pub decreases-loop-part : goal.decreases-loop-part
decreases-loop-part l = length l.parts
