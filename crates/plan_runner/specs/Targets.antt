-- The targets that each slot had so far, and whether a slot had one of them twice.
use Rattle.std.specs.Prelude.{◌≡◌, ℕ, ◌<◌, Bool, true, false, ◌||◌, List, [], ◌∷◌, ◌++◌, length}
use Rattle.std.specs.Prelude.{slice_index_or, slice_set}
use Rattle.plan_language.specs.declared.plan_command.PlanCommand.{PlanCommand}
use Rattle.cluster_admin.specs.Phases.{Phases, among}
use Rattle.plan_semantics.specs.Plans.{part}
use Rattle.plan_semantics.specs.Retargets.{HasNoRetarget, importings, phase_target}

-- the targets of the slot by its phase and these commands, in order
abbrev pub targets_of : Phases → (prefix : List PlanCommand) → (slot : ℕ) → List ℕ
targets_of phases prefix s = phase_target (phases s) ++ importings (part prefix s)

-- these are the nodes of the list, of the most nodes that there can be
pub record Marks (marks : List Bool) (nodes : List ℕ) : Type 0 where
  pub width : length marks ≡ 255
  pub are : (m : ℕ) → m < 255 → slice_index_or marks m false ≡ among m nodes

-- with these nodes too
abbrev pub marked : List Bool → List ℕ → List Bool
marked marks [] = marks
marked marks (m ∷ ms) = marked (slice_set marks m true) ms

-- one of these nodes is in the set already, or comes twice
abbrev pub comes_again : List Bool → List ℕ → Bool
comes_again marks [] = false
comes_again marks (m ∷ ms) = slice_index_or marks m false || comes_again (slice_set marks m true) ms

-- after these commands it is known of each slot which targets it had, and whether one came again
pub record KnowsTargets (phases : Phases) (prefix : List PlanCommand) (marks : ℕ → List Bool) (retargets : Bool)
    : Type 0 where
  pub each : (s : ℕ) → s < 16384 → Marks (marks s) (targets_of phases prefix s)
  pub none : retargets ≡ false → HasNoRetarget prefix phases
  pub some : retargets ≡ true → HasNoRetarget prefix phases → ⊥
