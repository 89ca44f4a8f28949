-- Plans that an administrator's seat has sent, one after the other, each left anywhere; and the headline of them.
use Rattle.std.specs.Prelude.{◌≡◌, ◌≢◌, ℕ, List, [], ◌∷◌}
use Rattle.key_slots.specs.Owners.{Owners}
use Rattle.cluster_admin.specs.Telling.{survey_after}
use Rattle.cluster_admin.specs.Surveys.{IsOpenSurvey, Survey, closed_survey}
use Rattle.cluster_world.specs.Trails.{Trail}
use Rattle.cluster_admin.specs.declared.call.AdminCall.{AdminCall}
use Rattle.plan_language.specs.PlanView.{PlanView}
use Rattle.plan_semantics.specs.Surveyed.{node_count}
use Rattle.plan_runner.specs.Advancing.{plan_of, seat_of}
use Rattle.plan_runner.specs.Leaving.{HasSent}
use Rattle.plan_runner.specs.ProgressView.{Progress, at_start}
use Rattle.plan_runner.specs.Verifying.{IsVerified, commands_of}
use Rattle.plan_runner.specs.declared.plan_state.PlanState.{PlanState}
use Rattle.plan_runner.specs.declared.running.Taken.{Taken}
use Rattle.reshard_theorem.specs.Surveyed.{AreSentFor, HoldInStages, SentPlan, all_calls, at_opening}

-- a plan that came to where it was by some calls came to where it is by these and perhaps others
abbrev pub Continues : Taken (List AdminCall) → Taken (List AdminCall) → Type 0
Continues old new = (p : Progress) (before : List AdminCall) → HasSent p before (seat_of old) (plan_of old)
    → HasSent p before (seat_of new) (plan_of new)

-- the plan was verified for the survey, and left anywhere; its calls were put to the end of the seat's list
pub record Sat (survey : Survey) (plan : PlanView) (before after : List AdminCall) : Type 0 where
  pub is_open : IsOpenSurvey survey
  pub verified : IsVerified plan survey
  pub most : ℕ
  pub state : PlanState
  pub sent : HasSent (at_start (node_count survey) (commands_of plan survey) most) before after state

-- of whatever plans these are the calls, each verified for the survey after those before it, the headline holds
abbrev pub HoldsOfPlans : Owners → List AdminCall → Trail → Type 0
HoldsOfPlans o calls t = (sent : List SentPlan) → sent ≢ [] → AreSentFor (closed_survey o.nodes o.owners) sent
    → all_calls sent ≡ calls → HoldInStages sent (at_opening t) t.events

-- these are the plan's commands
pub record IsOf (survey : Survey) (plan : PlanView) (sent : SentPlan) : Type 0 where
  pub version : sent.version ≡ plan.version
  pub commands : sent.plan ≡ commands_of plan survey

-- the headline holds of the three plans, of which the first and the last are these
pub record HoldsOfThree (first last : PlanView) (t : Trail) : Type 0 where
  pub one : SentPlan
  pub two : SentPlan
  pub three : SentPlan
  pub one_is : IsOf (closed_survey t.owners.nodes t.owners.owners) first one
  pub three_is : IsOf (survey_after (survey_after (closed_survey t.owners.nodes t.owners.owners) one.calls) two.calls)
      last three
  pub hold : HoldInStages (one ∷ two ∷ three ∷ []) (at_opening t) t.events
