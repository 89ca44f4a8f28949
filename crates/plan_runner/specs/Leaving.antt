-- A plan that is left anywhere, done, stopped, given up or still running: its calls are a prefix of an unrolling.
use Rattle.std.specs.Prelude.{◌≡◌, ◌⊎◌, ℕ, ◌+◌, List, [], ◌∷◌, ◌++◌, length, None}
use Rattle.cluster_admin.specs.declared.admin.AdminReply.{AdminReply}
use Rattle.cluster_admin.specs.declared.admin.AdminReply.TheVariants as reply
use Rattle.cluster_admin.specs.declared.call.AdminCall.{AdminCall}
use Rattle.plan_language.specs.declared.plan_command.PlanCommand.{PlanCommand}
use Rattle.plan_semantics.specs.Driving.{Spelled, StopsAtRefusal}
use Rattle.plan_semantics.specs.Listed.{AreListed, IsListed}
use Rattle.plan_semantics.specs.Unrolling.{IsPrefix}
use Rattle.plan_runner.specs.Advancing.{Goes, IsNext, PortState, PortSteps, Runs, Sends, runs_on, waits}
use Rattle.plan_runner.specs.PlanStates.{plan_after}
use Rattle.plan_runner.specs.ProgressView.{Progress, left_of}
use Rattle.plan_runner.specs.Watching.{RunsWatched, SendsWatched, WatchedSteps}
use Rattle.plan_runner.specs.declared.plan_state.PlanState.{PlanState}
use Rattle.plan_runner.specs.declared.plan_state.PlanState.TheVariants as states
use Rattle.plan_runner.specs.declared.stop_cause.StopCause.TheVariants as causes

-- From the progress by these calls to this state, in which the plan may run on, or was given up, or ended: each call is
-- the plan's next command as the calls before it left it
abbrev pub Comes : Progress → List AdminCall → PlanState → Type 0
Comes p [] j = (j ≡ states.Running p) ⊎ (j ≡ states.Stopped causes.Abandoned p.spent) ⊎ Goes p [] j
Comes p (c ∷ cs) j =
    IsNext p c × runs_on (plan_after (waits p) c.reply) (λ q. Comes q cs j) (λ i. (cs ≡ []) × (j ≡ i))

-- ---- what was sent

-- what a plan makes of a reply that is no list of keys, though a list was asked for
abbrev pub StopsUnlisted : AdminReply → (spent : ℕ) → PlanState → Type 0
StopsUnlisted (reply.Refused fault) n j = j ≡ states.Stopped (causes.Refused n fault) n
StopsUnlisted other n j = j ≡ states.Stopped causes.StrangeReply n

-- the plan stopped by its last call, a listing that was not answered with a list of keys, which no unrolling has; the
-- calls before it are a prefix
pub record EndsUnlisted (plan : List PlanCommand) (cs : List AdminCall) (j : PlanState) : Type 0 where
  pub front : List AdminCall
  pub last : AdminCall
  pub are : cs ≡ front ++ last ∷ []
  pub prefix : IsPrefix plan front
  pub unlisted : IsListed last.command last.reply → ⊥
  pub spent : ℕ
  pub stopped : StopsUnlisted last.reply spent j

-- No call follows a refused one, and all are a prefix of an unrolling, but for such a last call
abbrev pub LeftIsPrefix : Type 0
LeftIsPrefix = (p : Progress) (cs : List AdminCall) (j : PlanState) → p.listed ≡ None → Comes p cs j
    → StopsAtRefusal cs × (IsPrefix p.rest cs ⊎ EndsUnlisted p.rest cs j)

-- so in a run, where each listing is answered with a list, all are
abbrev pub ListedIsPrefix : Type 0
ListedIsPrefix = (p : Progress) (cs : List AdminCall) (j : PlanState) → p.listed ≡ None → Comes p cs j → AreListed cs
    → IsPrefix p.rest cs × StopsAtRefusal cs

-- ---- where a plan comes from and goes to

-- what a plan that runs on has left is what the calls leave
abbrev pub RunningIsSpelled : Type 0
RunningIsSpelled = (p q : Progress) (cs : List AdminCall) → p.listed ≡ None → Comes p cs (states.Running q)
    → Spelled (left_of p) cs (left_of q) × (q.spent ≡ p.spent + length cs)

-- by some calls and then by others
abbrev pub ComesOn : Type 0
ComesOn = (p q : Progress) (cs ds : List AdminCall) (j : PlanState) → Comes p cs (states.Running q) → Comes q ds j
    → Comes p (cs ++ ds) j

-- ---- over a port

-- some calls were put to the end of the seat's list, by which the plan came to this state
pub record HasSent (p : Progress) (before after : List AdminCall) (j : PlanState) : Type 0 where
  pub calls : List AdminCall
  pub after_is : after ≡ before ++ calls
  pub comes : Comes p calls j

-- so does one command, and so does a run
abbrev pub StepsAreSent : {P : Type 0} → PortSteps P → Type 0
StepsAreSent {P} by = (first last : PortState P) (p : Progress) (j : PlanState)
    → Sends by first last p j → HasSent p first.calls last.calls j

abbrev pub RunsAreSent : {P : Type 0} → PortSteps P → Type 0
RunsAreSent {P} by = (first last : PortState P) (p : Progress) (end : PlanState)
    → Runs by first last p end → HasSent p first.calls last.calls end

-- and those of a plan that is watched
abbrev pub WatchedStepsAreSent : {P W : Type 0} → WatchedSteps P W → Type 0
WatchedStepsAreSent {P} {W} by = (first last : PortState (P × W)) (p : Progress) (j : PlanState)
    → SendsWatched by first last p j → HasSent p first.calls last.calls j

abbrev pub WatchedRunsAreSent : {P W : Type 0} → WatchedSteps P W → Type 0
WatchedRunsAreSent {P} {W} by = (first last : PortState (P × W)) (p : Progress) (end : PlanState)
    → RunsWatched by first last p end → HasSent p first.calls last.calls end
