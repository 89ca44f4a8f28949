-- The nodes that are told.
use Rattle.std.proofs.Common.{◌≡◌, ℕ, ◌+◌, Bool, false, ◌&&◌, get_or, List, refl, add-one}
use Rattle.plan_runner.specs.SlotStates.{all_told}
use Rattle.plan_runner.proofs.Widths.{filled_has}

pub all_told_more : (n : ℕ) (told : List Bool) → all_told (n + 1) told ≡ (all_told n told && get_or told n false)
unfolding all_told
all_told_more n told = rw add-one refl

pub ruleset told_more = (all_told_more, filled_has)
