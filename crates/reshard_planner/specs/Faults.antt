-- Why there is no plan: which fault is out of memory, and the texts of the faults.
use Rattle.std.specs.Prelude.{List, ℕ, Bool, true, false, ◌++◌, codes, decimal}
use Rattle.reshard_planner.specs.declared.planner_fault.PlannerFault.{PlannerFault}
use Rattle.reshard_planner.specs.declared.planner_fault.PlannerFault.TheVariants.{NoSource, TooMany, TargetIsSource}
use Rattle.reshard_planner.specs.declared.planner_fault.PlannerFault.TheVariants.{NoWeight, Memory, StrangeMarks, NoTarget}

abbrev pub is_memory : PlannerFault → Bool
is_memory Memory = true
is_memory fault = false

-- the number and the name, and the slot where it is about one
abbrev pub planner_fault_text : PlannerFault → List ℕ
planner_fault_text NoSource = codes "1 NoSource"
planner_fault_text TooMany = codes "2 TooMany"
planner_fault_text TargetIsSource = codes "3 TargetIsSource"
planner_fault_text NoWeight = codes "4 NoWeight"
planner_fault_text Memory = codes "5 Memory"
planner_fault_text (StrangeMarks slot) = codes "6 StrangeMarks slot " ++ decimal slot
planner_fault_text NoTarget = codes "7 NoTarget"
