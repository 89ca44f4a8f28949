-- What the survey of a world shows to whoever plans.
use Rattle.std.specs.Prelude.{◌≡◌, ◌↔◌, length}
use Rattle.cluster_world.specs.Openness.{HavePhases}
use Rattle.cluster_admin.specs.Phases.{Phases}
use Rattle.cluster_world.specs.Worlds.{survey_of, World}
use Rattle.plan_semantics.specs.Surveyed.{Shows, node_count}

-- it shows the phases that the slots have at the nodes, and no others
abbrev pub SurveysShowPhases : Type 0
SurveysShowPhases = (w : World) (phases : Phases) → Shows (survey_of w) phases ↔ HavePhases w phases

-- it has each node
abbrev pub SurveysCountNodes : Type 0
SurveysCountNodes = (w : World) → node_count (survey_of w) ≡ length w.nodes
