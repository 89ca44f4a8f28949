use Rattle.std.proofs.Common.{◌≡◌, ◌++◌, ◌-◌}
use Rattle.plan_language.specs.Lines.{numbers_from}
use Rattle.reshard_planner.proofs.slot_list.SlotList.push_all.Given as goal

abbrev pub invariant-loop-number : goal.invariant-loop-number
invariant-loop-number l = l.self-inside.slots.items ≡ l.initial.self-inside.slots.items ++ numbers_from l.first (l.number - l.first)
