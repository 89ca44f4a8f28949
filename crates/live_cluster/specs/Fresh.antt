-- Seats that are not given yet.
use Rattle.std.specs.Prelude.{ℕ, zero, suc, List, [], ◌∷◌}
use Rattle.cluster_world.specs.declared.event.Event.{Event}

-- n fresh seats, numbered from k
abbrev pub fresh_from : ℕ → ℕ → List (ℕ × List Event)
fresh_from k zero = []
fresh_from k (suc n) = (k, []) ∷ fresh_from (suc k) n
