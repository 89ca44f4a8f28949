use Rattle.std.proofs.Common.{◌≡◌, map, min, sum, take}
use Rattle.plan_drawings.specs.Layouts.{moved_in}
use Rattle.plan_drawings.proofs.layouts.moved.Given as goal

abbrev pub invariant-loop-range : goal.invariant-loop-range
invariant-loop-range l = l.total ≡ min 16384 (sum (map moved_in (take l.range-index l.ranges)))
