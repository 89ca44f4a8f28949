-- How many commands a plan's lines count as, by how many slots they move.
use Rattle.std.proofs.Common.{◌≡◌, ℕ, ◌+◌, ◌-◌, ◌*◌, ◌≤◌, List, [], ◌∷◌, ◌++◌, Bool, true, false, cond, nat_le, Option, None, Some, refl, arith}
use Rattle.std.proofs.lemmas.Bool.{leb-true}
use Rattle.node_names.specs.Names.{Names}
use Rattle.plan_language.specs.Limits.{few, many, limits_of}
use Rattle.plan_language.specs.Lines.{count, line_count}
use Rattle.plan_language.specs.declared.line.Line.{Line}
use Rattle.plan_language.specs.declared.line.Line.TheVariants.{Command, Move}
use Rattle.reshard_planner.specs.Blank.{names_for}
use Rattle.reshard_planner.specs.Writing.{line_slots, slots_written}

line_few : (line : Line) → line_count few line ≤ 11 * line_slots line
line_few (Command command) = omega arith
line_few (Move first last s t b) = omega arith

line_many : (line : Line) → line_count many line ≤ 258 * line_slots line
line_many (Command command) = omega arith
line_many (Move first last s t b) = omega arith

count_few : (lines : List Line) → count few lines ≤ 11 * slots_written lines
count_few [] = omega arith
count_few (line ∷ lines) = let a = line_few line in let b = count_few lines in omega arith

count_many : (lines : List Line) → count many lines ≤ 258 * slots_written lines
count_many [] = omega arith
count_many (line ∷ lines) = let a = line_many line in let b = count_many lines in omega arith

few_room : (lines : List Line) → slots_written lines ≤ 16384 → count few lines ≤ 200000
few_room lines h = let a = count_few lines in omega arith

many_room : (lines : List Line) → slots_written lines ≤ 16384 → count many lines ≤ 4227072
many_room lines h = let a = count_many lines in omega arith

-- so many slots have room
pub all_room : (names : Option Names) (lines : List Line) → slots_written lines ≤ 16384
    → count (limits_of names) lines ≤ (limits_of names).commands
all_room None lines h = few_room lines h
all_room (Some names) lines h = many_room lines h

few_more : (lines : List Line) (line : Line) → slots_written lines + line_slots line ≤ 16384
    → count few lines + line_count few line ≤ 200000
few_more lines line h = let a = count_few lines in let b = line_few line in omega arith

many_more : (lines : List Line) (line : Line) → slots_written lines + line_slots line ≤ 16384
    → count many lines + line_count many line ≤ 4227072
many_more lines line h = let a = count_many lines in let b = line_many line in omega arith

-- and with one line more
pub more_room : (names : Option Names) (lines : List Line) (line : Line) → slots_written lines + line_slots line ≤ 16384
    → count (limits_of names) lines + line_count (limits_of names) line ≤ (limits_of names).commands
more_room None lines line h = few_more lines line h
more_room (Some names) lines line h = many_more lines line h

pub slots_pushed : (lines : List Line) (line : Line) → slots_written (lines ++ line ∷ []) ≡ slots_written lines + line_slots line
slots_pushed [] line = omega arith
slots_pushed (a ∷ lines) line = let e = slots_pushed lines line in omega arith

-- the nodes of a cluster may stand in a plan for it
pub wide_enough : (n : ℕ) → n ≤ 255 → n ≤ (limits_of (names_for n)).nodes
wide_enough n h = by (nat_le n 8) refl
  where
    by : (b : Bool) → nat_le n 8 ≡ b → n ≤ (limits_of (cond b None (Some []))).nodes
    by true e = leb-true n 8 e
    by false e = h
