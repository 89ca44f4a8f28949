-- Plans that are run while clients work: what the administrator's calls have to do with them.
use Rattle.std.specs.Prelude.{◌≡◌, ◌++◌, ℕ, List, [], Option, None, Some, length, option_map}
use Rattle.cluster_admin.specs.Surveys.{closed_survey}
use Rattle.cluster_admin.specs.declared.call.AdminCall.{AdminCall}
use Rattle.key_slots.specs.Owners.{Owners}
use Rattle.loopback_servers.specs.declared.plan_beside.PlanEnd.{PlanEnd}
use Rattle.loopback_servers.specs.declared.plan_beside.PlanEnd.TheVariants.{Done, Stopped, NotArmed}
use Rattle.plan_language.specs.Lines.{plan_commands}
use Rattle.plan_language.specs.PlanView.{PlanView}
use Rattle.plan_language.specs.declared.plan_command.PlanCommand.{PlanCommand}
use Rattle.plan_runner.specs.Advancing.{Goes, end_of}
use Rattle.plan_runner.specs.ProgressView.{Progress, at_start}
use Rattle.plan_runner.specs.Verifying.{Verified, commands_of}
use Rattle.plan_runner.specs.declared.running.Finish.TheVariants as ends
use Rattle.plan_semantics.specs.Surveyed.{node_count}
use Rattle.plan_semantics.specs.Unrolling.{Unrolls}

-- the commands of a plan that was verified, if there is one
abbrev pub verified_commands : Option Verified → Option (List PlanCommand)
verified_commands plan = option_map (λ v. commands_of v.plan v.survey) plan

-- the plan, if there is one, as it is verified for a cluster with these owners that nothing was done in yet
abbrev pub verified_over : Owners → Option PlanView → Option Verified
verified_over o plan = option_map (λ p. record { plan = p; survey = closed_survey o.nodes o.owners }) plan

-- the commands that a plan's lines, if there is one, stand for in a cluster of so many nodes
abbrev pub line_commands : (nodes : ℕ) → Option PlanView → Option (List PlanCommand)
line_commands nodes plan = option_map (λ p. plan_commands nodes p.lines) plan

-- the calls unroll the whole plan; without a plan there is none
abbrev pub CarriesOut : Option (List PlanCommand) → List AdminCall → Type 0
CarriesOut None calls = calls ≡ []
CarriesOut (Some plan) calls = Unrolls plan calls

-- before the first command, with no limit but that of the number
abbrev pub plan_at_start : Verified → Progress
plan_at_start plan =
    at_start (node_count plan.survey) (commands_of plan.plan plan.survey) 18446744073709551615

-- by its calls, which stand at the end of the seat's list, the plan was carried out, or stopped as their replies say;
-- or it made none
abbrev pub EndsBy : Verified → (before after : List AdminCall) → PlanEnd → Type 0
EndsBy plan before after (Done commands) = (calls : List AdminCall) × (after ≡ before ++ calls)
    × Unrolls (commands_of plan.plan plan.survey) calls × (commands ≡ length calls)
EndsBy plan before after (Stopped commands cause) = (calls : List AdminCall) × (after ≡ before ++ calls)
    × Goes (plan_at_start plan) calls
    (end_of (ends.Stopped (record { seat = after; cause = cause; spent = commands })))
EndsBy plan before after (NotArmed fault) = after ≡ before
