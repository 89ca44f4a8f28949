use Rattle.std.proofs.Common.{◌≡◌, ap, sym, subst}
use Rattle.cluster_admin.specs.Telling.{survey_after}
use Rattle.cluster_admin.specs.Surveys.{IsOpenSurvey, Survey}
use Rattle.cluster_world.specs.Worlds.{survey_of}
use Rattle.plan_runner.specs.Verifying.{Verified}
use Rattle.live_tests.proofs.Sitting.{ok_told, sat_by_calls}
use Rattle.live_tests.proofs.composed.take_up.Goals as goal

pub sit-requires-clause-is_open : goal.sit-requires-clause-is_open
sit-requires-clause-is_open g c =
    subst IsOpenSurvey (sym (ap (λ (v : Verified). v.survey) c.in_ok-plan.ensures.is)) c.in_ok-plan.ensures.is_open

pub returns : goal.returns
returns g c =
    sat_by_calls g.B.ClusterBrand.setup.opening c.args.plan c.in_ok-plan.plan c.in_ok-survey.survey c.args.admin c.survey.new.seat
    c.sit.result c.in_ok-plan.ensures.is
    (ok_told (λ (v : Survey). v ≡ survey_after (survey_of g.B.ClusterBrand.setup.opening) c.args.admin) c.survey.result
    c.in_ok-survey.survey c.in_ok-survey.ensures.value c.survey.ensures.told)
    c.survey.ensures.seat c.sit.ensures
