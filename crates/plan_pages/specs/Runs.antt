-- Slots in a list, which is broken so that no line is wider than 80 columns.
use Rattle.std.specs.Prelude.{ℕ, ◌-◌, nat_lt, Bool, List, [], ◌∷◌, ◌++◌, cond, codes, decimal, length}
use Rattle.plan_outlines.specs.declared.ranges.SlotRun.{SlotRun}
use Rattle.plan_pages.specs.Moves.{last_part}

-- an empty line, and what is listed
unfoldable pub again_heading : List ℕ
again_heading = codes "\nslots that move more than once: "

unfoldable pub back_heading : List ℕ
back_heading = codes "slots that move and come back: "

-- `100-120`
unfoldable pub run_text : SlotRun → List ℕ
run_text r = decimal r.first ++ last_part r.first r.last

-- the text and a comma stand in so many columns, with a comma and a space before
abbrev pub fits : (room : ℕ) → (text : List ℕ) → Bool
fits room t = nat_lt (length t) (room - 2)

-- what stands between two runs
abbrev pub gap : (fits : Bool) → List ℕ
gap f = cond f (codes ", ") (codes ",\n  ")

-- how many columns are left after the text
abbrev pub room_after : (room : ℕ) (text : List ℕ) → ℕ
room_after room t = cond (fits room t) (room - 2 - length t) (78 - length t)

-- the other runs, where so many columns are left
abbrev pub more_runs : (room : ℕ) → List SlotRun → List ℕ
more_runs room [] = []
more_runs room (r ∷ rs) =
    gap (fits room (run_text r)) ++ (run_text r ++ more_runs (room_after room (run_text r)) rs)

-- the runs on a line on which so many columns are left
abbrev pub runs_text : (room : ℕ) → List SlotRun → List ℕ
runs_text room [] = codes "none"
runs_text room (r ∷ rs) = run_text r ++ more_runs (room - length (run_text r)) rs

-- the slots that move more than once, and those that come back
abbrev pub runs_section : (again back : List SlotRun) → List ℕ
runs_section again back = again_heading ++ (runs_text 48 again ++ (10 ∷ back_heading ++ (runs_text 49 back ++ 10 ∷ [])))
