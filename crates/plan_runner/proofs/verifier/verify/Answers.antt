use Rattle.std.proofs.Common.{◌≤◌, sym, subst}
use Rattle.std.specs.Prelude.{IfErr}
use Rattle.cluster_admin.specs.Surveys.{IsOpenSurvey}
use Rattle.plan_runner.specs.Verifying.{IsRefusedOver}
use Rattle.plan_runner.proofs.Surveyed.{closed_open}
use Rattle.plan_runner.proofs.verifier.verify.Goals as goal

pub accept-requires : goal.accept-requires
accept-requires c =
    subst IsOpenSurvey (sym c.in-Ok.ensures) (closed_open c.args.owners.now (record {
      width = c.nodes-nodes.ensures.width;
      some = subst (λ n. 1 ≤ n) c.nodes-nodes.ensures.value c.nodes-nodes.ensures.some;
      most = subst (λ n. n ≤ 255) c.nodes-nodes.ensures.value c.nodes-nodes.ensures.most;
      named = c.nodes-nodes.ensures.named;
    }))

pub returns-in-Ok-clause-refused : goal.returns-in-Ok-clause-refused
returns-in-Ok-clause-refused c =
    subst (λ v. IfErr c.accept.result (λ e. IsRefusedOver c.args.plan v e.1)) c.in-Ok.ensures c.accept.ensures.refused
