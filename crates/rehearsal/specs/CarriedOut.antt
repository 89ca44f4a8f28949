-- Of a plan that was armed, and is done: clients came between its steps, its calls are a whole unrolling of it, and the
-- world is clean.
use Rattle.std.specs.Prelude.{◌≡◌, ℕ, List, [], ◌∷◌, ◌++◌, None}
use Rattle.store_commands.specs.Store.{Store}
use Rattle.cluster_world.specs.Cleanness.{Clean}
use Rattle.cluster_world.specs.Honesty.{Honest, past_of}
use Rattle.cluster_world.specs.Recorded.{Recorded, IsFirstNumber, Puts}
use Rattle.cluster_world.specs.Serving.{served, store_after}
use Rattle.cluster_world.specs.Steps.{Run}
use Rattle.cluster_admin.specs.declared.call.AdminCall.{AdminCall}
use Rattle.cluster_world.specs.declared.event.Event.{Event}
use Rattle.cluster_world.specs.AdminCalls.{calls}
use Rattle.plan_semantics.specs.Driving.{NoRefusal}
use Rattle.plan_semantics.specs.Plans.{IsFinal}
use Rattle.plan_semantics.specs.Unrolling.{Unrolls}
use Rattle.plan_runner.specs.Advancing.{Runs, Sends}
use Rattle.plan_runner.specs.ProgressView.{Progress}
use Rattle.plan_runner.specs.declared.plan_state.PlanState.TheVariants.{Done, Running}
use Rattle.reshard_theorem.specs.Headline.{Headline}
use Rattle.rehearsal.specs.ArmedPlans.{IsUnderway, KeepsPlans, WasOpen, armed_in}
use Rattle.rehearsal.specs.RecordedSteps.{recorded_steps, seated}

-- the plan was underway, and what came since its arming carried it out
pub record IsCarriedOut (r : Recorded) (plan : Progress) (u : IsUnderway r plan) (now : Recorded) : Type 0 where
  pub first_is : now.first ≡ r.first
  -- the trail has the events that led to the world in which it was armed, and then those that led to the world as it is
  pub since : List Event
  pub parts : now.events ≡ u.before ++ since
  pub led_here : Run u.start since now.world
  -- the administrator's calls since then are all that it is, and none was refused
  pub unrolls : Unrolls u.commands (calls since)
  pub none_refused : NoRefusal (calls since)

-- ---- how a plan is done

-- by its last command
abbrev pub StepsToEnd : Recorded → Recorded → Progress → Type 0
StepsToEnd r now plan =
    (before : List AdminCall) × (after : List AdminCall) × (n : ℕ)
    × Sends recorded_steps (seated r before) (seated now after) plan (Done n)

abbrev pub StepCarriesOut : Type 0
StepCarriesOut = (r now : Recorded) (plan : Progress) (u : IsUnderway r plan) → StepsToEnd r now plan
    → IsCarriedOut r plan u now

-- by all that is left of it
abbrev pub RunsToEnd : Recorded → Recorded → Progress → Type 0
RunsToEnd r now plan =
    (before : List AdminCall) × (after : List AdminCall) × (n : ℕ)
    × Runs recorded_steps (seated r before) (seated now after) plan (Done n)

abbrev pub RunCarriesOut : Type 0
RunCarriesOut = (r now : Recorded) (plan : Progress) (u : IsUnderway r plan) → RunsToEnd r now plan
    → IsCarriedOut r plan u now

-- ---- what comes between

-- a client's event leaves each plan underway, and so does a step of the plan that does not end it
abbrev pub ClientsKeepPlans : Type 0
ClientsKeepPlans = (r next : Recorded) (e : Event) → calls (e ∷ []) ≡ [] → Puts r e next → KeepsPlans r next

abbrev pub StepsKeepPlans : Type 0
StepsKeepPlans = (r next : Recorded) (plan more : Progress) (before after : List AdminCall) → IsUnderway r plan
    → Sends recorded_steps (seated r before) (seated next after) plan (Running more) → IsUnderway next more

-- a plan that was carried out still was after a client's event
abbrev pub ClientsKeepDone : Type 0
ClientsKeepDone = (r now next : Recorded) (plan : Progress) (u : IsUnderway r plan) (e : Event) → calls (e ∷ []) ≡ []
    → Puts now e next → IsCarriedOut r plan u now → IsCarriedOut r plan u next

-- ---- laws

-- the headline holds of the events since the plan was armed, if the world was open then and they are honest, and the
-- world is clean under the plan's final owners with the store of the replay
abbrev pub HeadlineOnceDone : Type 0
HeadlineOnceDone = (r now : Recorded) (plan : Progress) (u : IsUnderway r plan) (done : IsCarriedOut r plan u now)
    (store : Store)
    → WasOpen r plan u store → Honest u.start (past_of [] u.before) done.since
    → Headline (armed_in r plan u store) done.since now.world
    × ((final : List ℕ) → IsFinal u.commands u.phases final
    → Clean now.world final (store_after store (served done.since)))

-- they are, if the line `honest` finds no event of the whole trail
abbrev pub HonestOnceDone : Type 0
HonestOnceDone = (r now : Recorded) (plan : Progress) (u : IsUnderway r plan) (done : IsCarriedOut r plan u now)
    → IsFirstNumber now None → Honest u.start (past_of [] u.before) done.since
