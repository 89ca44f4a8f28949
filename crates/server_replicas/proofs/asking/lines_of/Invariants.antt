use Rattle.std.proofs.Common.{◌≡◌, ◌++◌, length}
use Rattle.std.specs.Prelude.{option_map}
use Rattle.resp2_wire.specs.View.{trees}
use Rattle.server_replicas.specs.Asking.{lines_of}
use Rattle.server_replicas.proofs.asking.lines_of.Given as goal

-- the lines before, and then those that are left
abbrev pub invariant-loop-left : goal.invariant-loop-left
invariant-loop-left l =
    lines_of (trees l.texts) ≡ option_map (λ ls. l.lines.items ++ ls) (lines_of (trees l.left))

abbrev pub decreases-loop-left : goal.decreases-loop-left
decreases-loop-left l = length l.left
