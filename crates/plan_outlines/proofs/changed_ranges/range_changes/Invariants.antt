use Rattle.std.proofs.Common.{◌≡◌, ◌∷◌, drop, reverse}
use Rattle.plan_outlines.specs.Changes.{changes_from}
use Rattle.plan_outlines.proofs.changed_ranges.range_changes.Given as goal

abbrev pub invariant-loop-place : goal.invariant-loop-place
invariant-loop-place l = l.first ∷ reverse l.later.items ≡ changes_from l.place (drop l.place l.before) (drop l.place l.after)
