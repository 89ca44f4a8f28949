-- Runs of marked slots.
use Rattle.std.specs.Prelude.{◌≡◌, ℕ, ◌+◌, ◌<◌, ◌≤◌, ◌==◌, ◌&&◌, ◌||◌, Bool, true, false, cond, List, [], ◌∷◌}
use Rattle.std.specs.Prelude.{length, map, nat_le, slice_index_or}
use Rattle.std.specs.List.{range_with_len}
use Rattle.plan_outlines.specs.declared.ranges.SlotRun.{SlotRun}

-- the slot, in front of the runs after it: where the next one begins after it, the two are one
abbrev pub run_in_front : (slot : ℕ) → List SlotRun → List SlotRun
run_in_front s [] = record { first = s; last = s } ∷ []
run_in_front s (next ∷ rest) =
    cond (next.first == s + 1) (record next { first = s } ∷ rest) (record { first = s; last = s } ∷ (next ∷ rest))

abbrev pub with_mark : (slot : ℕ) → Bool → List SlotRun → List SlotRun
with_mark s false runs = runs
with_mark s true runs = run_in_front s runs

-- the runs of the slots that are marked, where the first mark is that of the slot `from`
abbrev pub runs_from : (from : ℕ) → List Bool → List SlotRun
runs_from from [] = []
runs_from from (mark ∷ marks) = with_mark from mark (runs_from (from + 1) marks)

-- the marks of all slots
unfoldable pub marks_of : (ℕ → Bool) → List Bool
marks_of test = map test (range_with_len 0 16384)

abbrev pub runs_of : (ℕ → Bool) → List SlotRun
runs_of test = runs_from 0 (marks_of test)

-- ---- what the runs are, in other words

-- ascending, with a slot between any two, none below `from`, and none at `end` or past it
abbrev pub StandApart : (from end : ℕ) → List SlotRun → Type 0
StandApart from end [] = Unit {0}
StandApart from end (run ∷ rest) =
    (from ≤ run.first) × (run.first ≤ run.last) × (run.last < end) × StandApart (run.last + 2) end rest

abbrev pub is_within : (slot : ℕ) → SlotRun → Bool
is_within s run = nat_le run.first s && nat_le s run.last

-- the slot is in one of the runs
abbrev pub is_in : (slot : ℕ) → List SlotRun → Bool
is_in s [] = false
is_in s (run ∷ runs) = is_within s run || is_in s runs

pub record AreRunsOf (marks : List Bool) (runs : List SlotRun) : Type 0 where
  pub apart : StandApart 0 (length marks) runs
  pub marked : (s : ℕ) → is_in s runs ≡ slice_index_or marks s false

abbrev pub RunsAreOfMarks : Type 0
RunsAreOfMarks = (marks : List Bool) → AreRunsOf marks (runs_from 0 marks)
