use Rattle.std.proofs.Common.{◌≡◌, ◌≤◌, ◌+◌, ◌*◌, ◌++◌, length, take}
use Rattle.std.specs.List.{flat_map}
use Rattle.plan_drawings.specs.Now.{told_open}
use Rattle.plan_drawings.proofs.now_words.put_told_slots.Given as goal

abbrev pub invariant-loop-open_slot : goal.invariant-loop-open_slot
invariant-loop-open_slot l = record {
  text : l.out.items ≡ l.initial.out.items ++ flat_map told_open (take l.open_slot-index l.open_slots);
  few : length l.out.items ≤ length l.initial.out.items + 60 * l.open_slot-index;
}
