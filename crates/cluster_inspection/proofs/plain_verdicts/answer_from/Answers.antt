use Rattle.std.proofs.Common.{subst}
use Rattle.cluster_inspection.specs.Starts.{StartsFrom}
use Rattle.cluster_inspection.proofs.FileRead.{refused_unstarted}
use Rattle.cluster_inspection.proofs.plain_verdicts.answer_from.Goals as goal

pub returns-in_err-owners-clause-refusal : goal.returns-in_err-owners-clause-refusal
returns-in_err-owners-clause-refusal g c =
    refused_unstarted c.args.start.now c.in_err-owners.field-0.0 c.from_residual-in_err-owners.result
    c.in_err-owners.ensures.unstarted c.from_residual-in_err-owners.ensures.1

pub returns-clause-says : goal.returns-clause-says
returns-clause-says g c = (
  c.in_ok-plan.ensures.plan.0,
  c.in_ok-plan.ensures.plan.1,
  (
    c.in_ok-plan.plan,
    c.in_ok-plan.ensures.plan.2,
    (
      c.in_ok-owners.owners,
      c.in_ok-owners._book,
      subst (λ names. StartsFrom c.args.start.now names c.in_ok-owners._book c.in_ok-owners.owners)
          c.names_listed.ensures.value (c.in_ok-owners.ensures.owners c.names_listed.ensures.are),
      c.in_ok-verdict_on.ensures,
    ),
  ),
)
