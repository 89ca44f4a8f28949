-- How often slots are drained.
use Rattle.std.specs.Prelude.{ℕ, ◌+◌, ◌==◌, ◌&&◌, nat_le, min, Bool, false, List, count_by, slice_index, slice_set}
use Rattle.plan_language.specs.declared.plan_command.PlanCommand.{PlanCommand}
use Rattle.plan_language.specs.declared.plan_command.PlanCommand.TheVariants.{Drain}
use Rattle.plan_outlines.specs.declared.ranges.SlotRun.{SlotRun}
use Rattle.plan_changes.specs.Finals.{owners_after}
use Rattle.plan_changes.specs.Runs.{runs_of}

-- the command drains the slot
abbrev pub drains : (slot : ℕ) → PlanCommand → Bool
drains s (Drain slot m t b) = slot == s
drains s c = false

abbrev pub drain_count : List PlanCommand → (slot : ℕ) → ℕ
drain_count plan s = count_by (drains s) plan

abbrev pub is_moved_again : List PlanCommand → (slot : ℕ) → Bool
is_moved_again plan s = nat_le 2 (drain_count plan s)

-- drained, and in the end the owner's that it was before
abbrev pub is_moved_back : List PlanCommand → (owners : List ℕ) → (slot : ℕ) → Bool
is_moved_back plan owners s =
    nat_le 1 (drain_count plan s) && slice_index (owners_after plan owners) s == slice_index owners s

abbrev pub moved_again : List PlanCommand → List SlotRun
moved_again plan = runs_of (is_moved_again plan)

abbrev pub moved_back : List PlanCommand → (owners : List ℕ) → List SlotRun
moved_back plan owners = runs_of (is_moved_back plan owners)

-- how often each slot was drained, where 2 is twice or more, after the command
abbrev pub drained : List ℕ → PlanCommand → List ℕ
drained times (Drain s m t b) = slice_set times s (min (slice_index times s + 1) 2)
drained times c = times
