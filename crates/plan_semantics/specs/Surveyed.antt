-- What a survey shows to whoever plans.
use Rattle.std.specs.Prelude.{ℕ, length}
use Rattle.cluster_admin.specs.Phases.{Phases}
use Rattle.cluster_admin.specs.Surveys.{Survey, HasPhaseIn}

-- each slot is in its phase
abbrev pub Shows : Survey → Phases → Type 0
Shows survey phases = (s : ℕ) → HasPhaseIn survey s (phases s)

-- how many nodes were surveyed
abbrev pub node_count : Survey → ℕ
node_count survey = length survey.rows
