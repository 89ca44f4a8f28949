use Rattle.std.proofs.Common.{◌≡◌, ◌≤◌, ◌+◌, ◌*◌, ◌++◌, length, take}
use Rattle.std.specs.List.{flat_map}
use Rattle.plan_drawings.specs.Now.{told_now}
use Rattle.plan_drawings.proofs.now_words.put_told_nodes.Given as goal

abbrev pub invariant-loop-node : goal.invariant-loop-node
invariant-loop-node l = record {
  text : l.out.items ≡ l.initial.out.items ++ flat_map told_now (take l.node-index l.nodes);
  few : length l.out.items ≤ length l.initial.out.items + 40 * l.node-index;
}
