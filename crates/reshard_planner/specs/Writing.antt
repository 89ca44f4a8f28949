-- A plan that is written range by range, the last of which is still open.
use Rattle.std.specs.Prelude.{◌≡◌, ℕ, ◌+◌, ◌-◌, ◌<◌, ◌≤◌, List, [], ◌∷◌, ◌++◌, drop, length, Option, None, Some}
use Rattle.plan_language.specs.declared.line.Line.{Line}
use Rattle.plan_language.specs.declared.line.Line.TheVariants.{Command, Move}
use Rattle.reshard_planner.specs.declared.moved_range.MovedRange.{MovedRange}
use Rattle.reshard_planner.specs.declared.transfer.Transfer.{Transfer}
use Rattle.reshard_planner.specs.Grouping.{in_front, lines_of, plan_of, range_of, ranges_of}

-- the open range, if there is one, in front of others
abbrev pub with_open : Option MovedRange → List MovedRange → List MovedRange
with_open None rest = rest
with_open (Some range) rest = in_front range rest

-- its nodes are below the limit
abbrev pub IsOpen : (nodes : ℕ) → Option MovedRange → Type 0
IsOpen n None = Unit {0}
IsOpen n (Some range) = (range.first ≤ range.last) × (range.source < n) × (range.target < n)

-- how many slots a line moves, and 1 of a line that is a command
abbrev pub line_slots : Line → ℕ
line_slots (Command command) = 1
line_slots (Move first last source target batch) = last + 1 - first

abbrev pub slots_written : List Line → ℕ
slots_written [] = 0
slots_written (line ∷ lines) = line_slots line + slots_written lines

abbrev pub open_slots : Option MovedRange → ℕ
open_slots None = 0
open_slots (Some range) = range.last + 1 - range.first

-- the nodes of a transfer are among so many
abbrev pub IsBetween : (nodes : ℕ) → Transfer → Type 0
IsBetween n transfer = (transfer.source < n) × (transfer.target < n)

-- with one transfer more, this much of the plan is written and this range is open
pub record TakesOn (batch : ℕ) (old : List Line) (range : Option MovedRange) (next : Transfer) (new : List Line)
    (open_range : MovedRange) : Type 0 where
  pub order : open_range.first ≤ open_range.last
  pub source : open_range.source ≡ next.source
  pub target : open_range.target ≡ next.target
  pub counted : slots_written new + open_slots (Some open_range) ≡ slots_written old + open_slots range + 1
  pub written : (rest : List MovedRange) → new ++ lines_of batch (in_front open_range rest)
      ≡ old ++ lines_of batch (with_open range (in_front (range_of next) rest))

-- so many transfers of all are taken on
pub record IsUnderway (batch nodes : ℕ) (transfers : List Transfer) (done : ℕ) (plan : List Line)
    (range : Option MovedRange) : Type 0 where
  pub order : IsOpen nodes range
  pub room : slots_written plan + open_slots range + (length transfers - done) ≤ 16384
  pub written : plan ++ lines_of batch (with_open range (ranges_of (drop done transfers))) ≡ plan_of batch transfers
