-- The lines of a plan that makes transfers in order: one for each longest range of consecutive slots with one source
-- and one target.
use Rattle.std.specs.Prelude.{ℕ, ◌+◌, Bool, ◌&&◌, ◌==◌, cond, List, [], ◌∷◌}
use Rattle.plan_language.specs.declared.line.Line.{Line}
use Rattle.plan_language.specs.declared.line.Line.TheVariants.{Move}
use Rattle.reshard_planner.specs.declared.transfer.Transfer.{Transfer}
use Rattle.reshard_planner.specs.declared.moved_range.MovedRange.{MovedRange}

abbrev pub range_of : Transfer → MovedRange
range_of t = record { first = t.slot; last = t.slot; source = t.source; target = t.target }

-- the slot is the next one, between the same nodes
abbrev pub goes_on : MovedRange → (slot source target : ℕ) → Bool
goes_on range slot source target = range.last + 1 == slot && range.source == source && range.target == target

-- the range, in front of others: where the next one continues, the two are one
abbrev pub in_front : MovedRange → List MovedRange → List MovedRange
in_front range [] = range ∷ []
in_front range (next ∷ rest) =
    cond (goes_on range next.first next.source next.target) (record range { last = next.last } ∷ rest)
    (range ∷ (next ∷ rest))

abbrev pub ranges_of : List Transfer → List MovedRange
ranges_of [] = []
ranges_of (transfer ∷ transfers) = in_front (range_of transfer) (ranges_of transfers)

abbrev pub line_of : (batch : ℕ) → MovedRange → Line
line_of batch range = Move range.first range.last range.source range.target batch

-- in order, each with this batch
abbrev pub lines_of : (batch : ℕ) → List MovedRange → List Line
lines_of batch [] = []
lines_of batch (range ∷ ranges) = line_of batch range ∷ lines_of batch ranges

abbrev pub plan_of : (batch : ℕ) → List Transfer → List Line
plan_of batch transfers = lines_of batch (ranges_of transfers)
