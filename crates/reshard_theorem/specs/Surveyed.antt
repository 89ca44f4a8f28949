-- Several plans, one after the other, each verified for the survey where the one before it stopped. A survey is known
-- from the first one and the administrator's calls since, so of the world only the calls are looked at.
use Rattle.std.specs.Prelude.{◌≡◌, ◌≢◌, ℕ, List, [], ◌∷◌, ◌++◌, map, None}
use Rattle.std.specs.FinMap as finite
use Rattle.key_slots.specs.Owners.{IsTable}
use Rattle.store_commands.specs.Store.{Store}
use Rattle.cluster_world.specs.Worlds.{World, survey_of}
use Rattle.cluster_world.specs.AdminCalls.{calls}
use Rattle.cluster_world.specs.Earning.{IsFirstDishonest}
use Rattle.cluster_world.specs.Honesty.{Honest}
use Rattle.cluster_world.specs.Openness.{Open}
use Rattle.cluster_admin.specs.Phases.{closed_by, Phases}
use Rattle.cluster_world.specs.Servers.{ServerRun}
use Rattle.cluster_world.specs.Steps.{Run}
use Rattle.cluster_admin.specs.Telling.{survey_after}
use Rattle.cluster_admin.specs.Surveys.{Survey, closed_survey}
use Rattle.cluster_world.specs.Trails.{Trail, opening}
use Rattle.cluster_admin.specs.declared.call.AdminCall.{AdminCall}
use Rattle.cluster_world.specs.declared.event.Event.{Event}
use Rattle.plan_language.specs.declared.plan_command.PlanCommand.{PlanCommand}
use Rattle.plan_semantics.specs.Plans.{Legal}
use Rattle.plan_semantics.specs.Surveyed.{Shows, node_count}
use Rattle.plan_semantics.specs.Unrolling.{IsPrefix}
use Rattle.reshard_theorem.specs.ServerHeadline.{EachServerHolds}
use Rattle.reshard_theorem.specs.Stages.{Stage, stage_events, EachHolds}

-- a plan, the phases for which it was verified, and the calls that were sent by it
pub record SentPlan : Type 0 where
  pub version : ℕ
  pub plan : List PlanCommand
  pub phases : Phases
  pub calls : List AdminCall

-- the survey shows these phases, the plan is legal for them, and its calls are a prefix of an unrolling
pub record IsSentFor (survey : Survey) (sent : SentPlan) : Type 0 where
  pub shows : Shows survey sent.phases
  pub legal : Legal sent.version sent.plan sent.phases (node_count survey)
  pub prefix : IsPrefix sent.plan sent.calls

-- each for the survey after the calls of those before it
abbrev pub AreSentFor : Survey → List SentPlan → Type 0
AreSentFor survey [] = Unit {0}
AreSentFor survey (x ∷ xs) = IsSentFor survey x × AreSentFor (survey_after survey x.calls) xs

-- the calls of all of them
abbrev pub all_calls : List SentPlan → List AdminCall
all_calls [] = []
all_calls (x ∷ xs) = x.calls ++ all_calls xs

-- the plan of a stage, with its calls
abbrev pub sent_in : Stage → SentPlan
sent_in x = record { version = x.version; plan = x.plan; phases = x.phases; calls = calls x.events }

-- ---- stages that are given

-- a survey at servers, too, is told by the calls
abbrev pub SurveysAreToldAtServers : Type 0
SurveysAreToldAtServers = (first : World) (events : List Event) (last : World) → ServerRun first events last
    → survey_of last ≡ survey_after (survey_of first) (calls events)

-- all seven clauses hold of each plan
abbrev pub HeadlineOverSurveys : Type 0
HeadlineOverSurveys = (stages : List Stage) (w last : World) (phases : Phases) (store : Store) (before : List Event)
    → Open w phases store before → AreSentFor (survey_of w) (map sent_in stages) → Run w (stage_events stages) last
    → Honest w before (stage_events stages) → EachHolds w store before stages

abbrev pub ServerHeadlineOverSurveys : Type 0
ServerHeadlineOverSurveys = (stages : List Stage) (w last : World) (phases : Phases) (store : Store)
    (before : List Event)
    → Open w phases store before → AreSentFor (survey_of w) (map sent_in stages)
    → ServerRun w (stage_events stages) last → Honest w before (stage_events stages)
    → EachServerHolds w store before stages

-- ---- calls alone

-- an open world in which the first of several plans was verified
pub record Setting : Type 0 where
  pub first : World
  pub phases : Phases
  pub store : Store
  -- the events before, the newest first
  pub before : List Event

-- A run of some kind from there, whose administrator's calls are those of these plans, one after the other. There is
-- one at least, since each event is of some plan's stage
pub record IsRunOfPlans (runs : World → List Event → World → Type 0) (sent : List SentPlan) (setting : Setting)
    (events : List Event) (last : World) : Type 0 where
  pub is_open : Open setting.first setting.phases setting.store setting.before
  pub some : sent ≢ []
  pub each_sent : AreSentFor (survey_of setting.first) sent
  pub calls_are : calls events ≡ all_calls sent
  pub run : runs setting.first events last
  pub honest : Honest setting.first setting.before events

-- The events fall into stages of just these plans and calls, in their order, of each of which the headline holds
pub record HoldInStages (sent : List SentPlan) (setting : Setting) (events : List Event) : Type 0 where
  pub stages : List Stage
  pub plans_are : map sent_in stages ≡ sent
  pub events_are : stage_events stages ≡ events
  pub each : EachHolds setting.first setting.store setting.before stages

pub record HoldInServerStages (sent : List SentPlan) (setting : Setting) (events : List Event) : Type 0 where
  pub stages : List Stage
  pub plans_are : map sent_in stages ≡ sent
  pub events_are : stage_events stages ≡ events
  pub each : EachServerHolds setting.first setting.store setting.before stages

abbrev pub HeadlineOverCalls : Type 0
HeadlineOverCalls = (sent : List SentPlan) (setting : Setting) (events : List Event) (last : World)
    → IsRunOfPlans Run sent setting events last → HoldInStages sent setting events

abbrev pub ServerHeadlineOverCalls : Type 0
ServerHeadlineOverCalls = (sent : List SentPlan) (setting : Setting) (events : List Event) (last : World)
    → IsRunOfPlans ServerRun sent setting events last → HoldInServerStages sent setting events

-- ---- trails

-- at the opening of a trail
abbrev pub at_opening : Trail → Setting
at_opening t = record {
  first = opening t;
  phases = closed_by t.owners.owners;
  store = finite.empty;
  before = [];
}

-- the survey there
abbrev pub OpeningsAreSurveyed : Type 0
OpeningsAreSurveyed = (t : Trail) → survey_of (opening t) ≡ closed_survey t.owners.nodes t.owners.owners

-- The events are a run from the opening whose administrator's calls are those of these plans, and the search for an
-- event that is not honest finds none
pub record IsTrailOfCalls (sent : List SentPlan) (t : Trail) (last : World) : Type 0 where
  pub table : IsTable t.owners
  pub some : sent ≢ []
  pub each_sent : AreSentFor (closed_survey t.owners.nodes t.owners.owners) sent
  pub calls_are : calls t.events ≡ all_calls sent
  pub run : Run (opening t) t.events last
  pub searched : IsFirstDishonest (opening t) t.events None

abbrev pub HeadlineOverTrails : Type 0
HeadlineOverTrails = (sent : List SentPlan) (t : Trail) (last : World) → IsTrailOfCalls sent t last
    → HoldInStages sent (at_opening t) t.events
