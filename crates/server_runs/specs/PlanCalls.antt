-- The calls of a plan, each of which is next after the replies to those before.
use Rattle.std.specs.Prelude.{◌≡◌, ℕ, List, [], ◌∷◌}
use Rattle.cluster_admin.specs.Surveys.{Survey}
use Rattle.cluster_admin.specs.declared.call.AdminCall.{AdminCall}
use Rattle.plan_language.specs.PlanView.{PlanView}
use Rattle.plan_runner.specs.Advancing.{IsNext, runs_on}
use Rattle.plan_runner.specs.PlanStates.{plan_after}
use Rattle.plan_runner.specs.ProgressView.{Progress, at_start, waits}
use Rattle.plan_runner.specs.Verifying.{commands_of}
use Rattle.plan_runner.specs.declared.plan_state.PlanState.{PlanState}
use Rattle.plan_runner.specs.declared.plan_state.PlanState.TheVariants.{Running, Done, Stopped}
use Rattle.plan_semantics.specs.Surveyed.{node_count}

-- the plan before its first command, as `apply` starts it
abbrev pub start_of : PlanView → Survey → Progress
start_of plan v = at_start (node_count v) (commands_of plan v) 18446744073709551615

-- each call is the plan's next command as the calls before it left it, and none follows where the plan has ended
abbrev pub AreNext : Progress → List AdminCall → Type 0
AreNext p [] = Unit {0}
AreNext p (c ∷ cs) = IsNext p c × runs_on (plan_after (waits p) c.reply) (λ q. AreNext q cs) (λ j. cs ≡ [])

-- how many replies were taken
abbrev pub replies_in : PlanState → ℕ
replies_in (Running p) = p.spent
replies_in (Done n) = n
replies_in (Stopped cause n) = n
