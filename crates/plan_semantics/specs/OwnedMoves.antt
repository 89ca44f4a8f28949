-- Plans of `move` lines alone.
use Rattle.std.specs.Prelude.{◌≡◌, ◌≢◌, ℕ, ◌+◌, ◌-◌, ◌<◌, ◌≤◌, List, [], ◌∷◌, ◌++◌, slice_index}
use Rattle.std.specs.List.{AllByRecursion}
use Rattle.plan_language.specs.Lines.{numbers_from, plan_commands, ArePlanLines}
use Rattle.plan_language.specs.declared.limits.Limits.{Limits}
use Rattle.plan_language.specs.declared.line.Line.{Line}
use Rattle.plan_language.specs.declared.line.Line.TheVariants.{Command, Move}
use Rattle.cluster_admin.specs.Phases.{closed_by}
use Rattle.plan_semantics.specs.Plans.{IsDistinct, Legal}

-- the slots of a line, ascending
abbrev pub slots_in : Line → List ℕ
slots_in (Command command) = []
slots_in (Move first last source target batch) = numbers_from first (last + 1 - first)

-- the slots of all lines, in order
abbrev pub slots_moved : List Line → List ℕ
slots_moved [] = []
slots_moved (line ∷ lines) = slots_in line ++ slots_moved lines

-- a line that moves slots from their owner to another node of the cluster
abbrev pub IsOwnedMove : (n : ℕ) → List ℕ → Line → Type 0
IsOwnedMove n owners (Command command) = ⊥
IsOwnedMove n owners (Move first last source target batch) =
    (source < n) × (target < n) × (source ≢ target)
    × ((s : ℕ) → first ≤ s → s ≤ last → slice_index owners s ≡ source)

-- a plan of such lines over distinct slots is legal where every slot is closed, in each version and within any limits
abbrev pub OwnedMovesAreLegal : Type 0
OwnedMovesAreLegal = (version n : ℕ) (limits : Limits) (owners : List ℕ) (lines : List Line)
    → ArePlanLines limits lines → AllByRecursion (IsOwnedMove n owners) lines → IsDistinct (slots_moved lines)
    → Legal version (plan_commands n lines) (closed_by owners) n
