-- What the administrator's calls tell of owners and marks: nothing else changes them, so a survey is known from one
-- that was made before and the calls since, by their replies alone.
use Rattle.std.specs.Prelude.{◌≡◌, List}
use Rattle.cluster_world.specs.AdminCalls.{calls}
use Rattle.cluster_world.specs.Steps.{Run}
use Rattle.cluster_world.specs.Worlds.{survey_of, World}
use Rattle.cluster_world.specs.declared.event.Event.{Event}
use Rattle.cluster_admin.specs.Telling.{survey_after}

abbrev pub SurveysAreTold : Type 0
SurveysAreTold = (first : World) (events : List Event) (last : World) → Run first events last
    → survey_of last ≡ survey_after (survey_of first) (calls events)
