-- A plan that ran to its end was carried out whole.
use Rattle.std.specs.Prelude.{◌≡◌, ℕ, List, [], ◌∷◌, Option, Some, None}
use Rattle.cluster_admin.specs.Keys.{Key}
use Rattle.cluster_admin.specs.declared.call.AdminCall.{AdminCall}
use Rattle.plan_language.specs.declared.plan_command.PlanCommand.{PlanCommand}
use Rattle.plan_language.specs.declared.plan_command.PlanCommand.TheVariants as planned
use Rattle.plan_runner.specs.declared.plan_state.PlanState.TheVariants.{Done}
use Rattle.plan_semantics.specs.Driving.{Spelled, whole}
use Rattle.plan_semantics.specs.Unrolling.{Unrolls}
use Rattle.plan_runner.specs.ProgressView.{Progress, left_of}
use Rattle.plan_runner.specs.Advancing.{Goes}

-- keys are listed only before a drain
abbrev pub IsOpen : List PlanCommand → Option (List Key) → Type 0
IsOpen rest None = Unit {0}
IsOpen (planned.Drain s m t b ∷ rest) (Some ks) = Unit {0}
IsOpen rest (Some ks) = ⊥

abbrev pub DoneIsSpelled : Type 0
DoneIsSpelled = (p : Progress) (cs : List AdminCall) (n : ℕ) → IsOpen p.rest p.listed → Goes p cs (Done n)
    → Spelled (left_of p) cs (whole [])

-- the calls of a plan that began with nothing listed and is done are a whole unrolling
abbrev pub DoneIsUnrolled : Type 0
DoneIsUnrolled = (p : Progress) (cs : List AdminCall) (n : ℕ) → p.listed ≡ None → Goes p cs (Done n) → Unrolls p.rest cs
