-- Plans that move a slot to a node that it was moved to before: an old ASK to that node may then earn an ASKING of the
-- later move.
use Rattle.std.specs.Prelude.{ℕ, List, [], ◌∷◌, ◌++◌}
use Rattle.plan_language.specs.declared.plan_command.PlanCommand.{PlanCommand}
use Rattle.plan_language.specs.declared.plan_command.PlanCommand.TheVariants as planned
use Rattle.cluster_admin.specs.Phases.{Phase, Phases, IsDistinct}
use Rattle.cluster_admin.specs.Phases as phase
use Rattle.plan_semantics.specs.Plans.{part}

-- the nodes that import, in order
abbrev pub importings : List PlanCommand → List ℕ
importings [] = []
importings (planned.Importing s m at ∷ rest) = at ∷ importings rest
importings (o ∷ rest) = importings rest

-- the target of a slot that is on its way
abbrev pub phase_target : Phase → List ℕ
phase_target (phase.Closed o) = []
phase_target (phase.Importing s t) = t ∷ []
phase_target (phase.Migrating s t) = t ∷ []
phase_target (phase.TargetTold s t) = t ∷ []
phase_target (phase.SourceTold s t left) = t ∷ []

-- the targets of each slot's rest, moves and tries are different nodes
abbrev pub HasNoRetarget : List PlanCommand → Phases → Type 0
HasNoRetarget plan phases = (s : ℕ) → IsDistinct (phase_target (phases s) ++ importings (part plan s))
