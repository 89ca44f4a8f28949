use Rattle.std.proofs.Common.{◌≡◌, length}
use Rattle.byte_texts.specs.Parts.{parts}
use Rattle.server_shards.specs.Targets.{is_named}
use Rattle.server_shards.proofs.targets.is_named.Given as goal

-- what is left says the same as the whole
abbrev pub invariant-loop-part : goal.invariant-loop-part
invariant-loop-part l = is_named l.id (parts 44 l.ids) ≡ is_named l.id l.parts

abbrev pub decreases-loop-part : goal.decreases-loop-part
decreases-loop-part l = length l.parts
