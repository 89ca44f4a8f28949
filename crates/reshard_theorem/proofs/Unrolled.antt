-- A whole unrolling is a prefix of one.
use Rattle.std.proofs.Common.{◌≡◌, List, [], ◌∷◌, ◌++◌, sym, subst, append-nil}
use Rattle.plan_language.specs.declared.plan_command.PlanCommand.{PlanCommand}
use Rattle.cluster_admin.specs.declared.call.AdminCall.{AdminCall}
use Rattle.plan_semantics.specs.Unrolling.{Unrolls, IsPrefix}

pub whole_is_prefix : (plan : List PlanCommand) (cs : List AdminCall) → Unrolls plan cs → IsPrefix plan cs
whole_is_prefix plan cs u = ([], subst (Unrolls plan) (sym (append-nil cs)) u)
