use Rattle.std.proofs.Common.{◌≡◌, length}
use Rattle.byte_texts.specs.Parts.{parts}
use Rattle.server_versions.specs.Versions.{value_in}
use Rattle.server_versions.proofs.versions.value_in.Given as goal

-- what is left tells the same as the whole
abbrev pub invariant-loop-line : goal.invariant-loop-line
invariant-loop-line l = value_in l.name (parts 10 l.text) ≡ value_in l.name l.lines

abbrev pub decreases-loop-line : goal.decreases-loop-line
decreases-loop-line l = length l.lines
