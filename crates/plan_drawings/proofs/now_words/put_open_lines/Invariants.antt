use Rattle.std.proofs.Common.{◌≡◌, ◌≤◌, ◌+◌, ◌*◌, ◌++◌, length, take}
use Rattle.std.specs.List.{flat_map}
use Rattle.plan_drawings.specs.Now.{open_line}
use Rattle.plan_drawings.proofs.now_words.put_open_lines.Given as goal

abbrev pub invariant-loop-open_slot : goal.invariant-loop-open_slot
invariant-loop-open_slot l = record {
  text : l.out.items ≡ l.initial.out.items ++ flat_map open_line (take l.open_slot-index l.open_slots);
  few : length l.out.items ≤ length l.initial.out.items + 150 * l.open_slot-index;
}
