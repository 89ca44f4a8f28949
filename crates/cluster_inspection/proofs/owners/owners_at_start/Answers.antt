use Rattle.std.proofs.Common.{subst}
use Rattle.std.proofs.lemmas.Result.{err_from_is_err_and}
use Rattle.cluster_inspection.specs.Starts.{IsNoFile}
use Rattle.cluster_inspection.proofs.owners.owners_at_start.Goals as goal

pub returns-in_err-owners-in-Survey-clause-unstarted : goal.returns-in_err-owners-in-Survey-clause-unstarted
returns-in_err-owners-in-Survey-clause-unstarted g c =
    let none = c.in_err-owners-in-Survey.field-0.0 in
    let p = err_from_is_err_and c.from_residual-in_err-owners-in-Survey.result c.from_residual-in_err-owners-in-Survey.ensures.1 in
    rw (p.1, p.2, c.in-Survey.is)
    (subst (λ t. IsNoFile t none) c.as_str.ensures.value c.in_err-owners-in-Survey.ensures.none)
