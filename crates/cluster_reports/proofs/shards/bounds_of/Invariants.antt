use Rattle.std.proofs.Common.{◌≡◌, map, take}
use Rattle.std.specs.List.{flat_map}
use Rattle.resp2_wire.specs.View.{tree}
use Rattle.cluster_reports.specs.Shards.{bounds_of}
use Rattle.cluster_reports.proofs.shards.bounds_of.Given as goal

-- the bounds of the ranges before
abbrev pub invariant-loop-range : goal.invariant-loop-range
invariant-loop-range l = map tree l.bounds.items ≡ flat_map (bounds_of l.node) (take l.range-index l.ranges)
