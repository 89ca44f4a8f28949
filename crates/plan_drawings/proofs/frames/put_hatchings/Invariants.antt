use Rattle.std.proofs.Common.{◌≡◌, ◌≤◌, ◌+◌, ◌*◌, ◌++◌, length, take}
use Rattle.std.specs.List.{flat_map}
use Rattle.plan_drawings.specs.Frames.{hatching_of}
use Rattle.plan_drawings.proofs.frames.put_hatchings.Given as goal

abbrev pub invariant-loop-node : goal.invariant-loop-node
invariant-loop-node l = record {
  text : l.out.items ≡ l.initial.out.items ++ flat_map hatching_of (take l.node-index l.nodes);
  few : length l.out.items ≤ length l.initial.out.items + 260 * l.node-index;
}
