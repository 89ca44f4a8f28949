-- Calls that are next are a beginning of what the plan stands for.
use Rattle.std.proofs.Common.{List}
use Rattle.cluster_admin.specs.Surveys.{Survey}
use Rattle.cluster_admin.specs.declared.call.AdminCall.{AdminCall}
use Rattle.plan_language.specs.PlanView.{PlanView}
use Rattle.plan_language.specs.declared.plan_command.PlanCommand.{PlanCommand}
use Rattle.plan_runner.specs.Verifying.{commands_of}
use Rattle.plan_semantics.specs.Driving.{StopsAtRefusal}
use Rattle.plan_semantics.specs.Unrolling.{IsPrefix}
use Rattle.plan_semantics.proofs.Unrolling.{spelled_by_prefixes}
use Rattle.server_runs.proofs.Listing.{AllListKeys}
use Rattle.server_runs.proofs.OwnCalls.{next_spelt}
use Rattle.server_runs.specs.PlanCalls.{AreNext, start_of}

-- calls that are next are a beginning of what the plan stands for
abbrev pub AreBeginning : List PlanCommand → List AdminCall → Type 0
AreBeginning plan cs = IsPrefix plan cs × StopsAtRefusal cs

pub next_beginning : (plan : PlanView) (v : Survey) (cs : List AdminCall) → AreNext (start_of plan v) cs → AllListKeys cs
    → AreBeginning (commands_of plan v) cs
next_beginning plan v cs next keys =
    let spelt = next_spelt (start_of plan v) cs tt next keys in
    ((spelled_by_prefixes (commands_of plan v) cs).0.1 (spelt.left, spelt.spelled), spelt.stops)
