-- The one step on the word to which an administrator's seat belongs.
use Rattle.std.specs.Prelude.{◌≡◌, ℕ, List, [], ◌∷◌, ◌++◌}
use mathlib.Core.Option.{some}
use Rattle.atomic_table.specs.Table.{State, Me, Step}
use Rattle.cluster_admin.specs.declared.call.AdminCall.{AdminCall}

-- whatever was called
abbrev pub Anything : {K : Type 0} → K → State AdminCall (List AdminCall) → Type 0
Anything key s = Unit {0}

-- the call that is said stands at the end
abbrev pub AddStep : Step AdminCall → Me AdminCall (List AdminCall) → ℕ → Me AdminCall (List AdminCall) → Type 0
AddStep s v n w = (c : AdminCall) → s.said ≡ some c → w ≡ (v.0 ++ c ∷ [], v.1)
